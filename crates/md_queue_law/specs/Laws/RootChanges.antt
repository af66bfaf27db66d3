-- A change of a queue's head or tail to another node of the queue.
use Rattle.std.proofs.Common.{◌≡◌, ℕ, suc, ◌+◌, ◌<◌, List, refl, sym, ◌∙◌}
use Rattle.md_words.specs.Place.{node_next}
use Rattle.md_words.specs.Layout.{address}
use Rattle.md_machine.specs.declared.certificate.Change.{Change}
use Rattle.md_machine.specs.declared.certificate.NewNode.{NewNode}
use Rattle.md_machine.specs.declared.node.Structure.{Structure}
use Rattle.md_machine.specs.declared.node.Structure.TheVariants.{Queue}
use Rattle.md_machine.specs.LogicalHeap.{LogicalHeap, after_nodes, changed, changed_all}
use Rattle.md_machine.specs.Meaning.{KeepsFacts}
use Rattle.md_queue_law.specs.QueueShape.{link, head_of, IsOf, QueueShape, QueuesStand}
use Rattle.md_queue_law.specs.QueueValues.{queue_values}
use Rattle.md_queue_law.specs.Laws.Words.{head_same, tail_same, head_not_next, tail_not_next, head_not_tail}
use Rattle.md_queue_law.specs.QueueCertificates.{head_change, tail_change}
use Rattle.md_queue_law.specs.Laws.Walk.{ranked_values}
use Rattle.md_queue_law.specs.Laws.Agreement.{PlacedExist, NodesAgree, keeps_facts, line_agrees, values_agree, queue_values-line, ranked_values-same}
use Rattle.md_queue_law.specs.Laws.Following.{put_same, put_other, IsNoNext, QueueFollows, RootsStay, queues_stand, queue_lists-set}

-- the heap after a change of one word
abbrev pub after_change : LogicalHeap → Change → LogicalHeap
after_change h c = record { words = changed h.words c; placed = h.placed }

-- the heap after changes and new nodes
abbrev pub after_lists : LogicalHeap → List Change → List NewNode → LogicalHeap
after_lists h changes nodes = after_nodes (record { words = changed_all h.words changes; placed = h.placed }) nodes

module _ (h : LogicalHeap) (c : Change) (exist : PlacedExist h) (root : IsNoNext h.words.shape c.word) where
  pub root_facts : KeepsFacts h (after_change h c)
  root_facts = keeps_facts h (after_change h c) (λ node s at. record {
    placed = at;
    key_of = refl;
    value_of_node = refl;
    next = λ v e settled. put_other h.words.value c.word c.new (address h.words.shape (node_next node)) (root node (exist node s at)) ∙ e;
  })

  pub root_nodes : (s : Structure) → NodesAgree h (after_change h c) s
  root_nodes s = record {
    shape = refl;
    placed = λ node at. at;
    only = λ node at. at;
    key_of = λ node at. refl;
    value_of_node = λ node at. refl;
    next = λ node at. put_other h.words.value c.word c.new (address h.words.shape (node_next node)) (root node (exist node s at));
  }

module _ (h : LogicalHeap) (exist : PlacedExist h) (stand : QueuesStand h) (queue : ℕ) (within : queue < h.words.shape.queues) (old to : ℕ)
    (of : IsOf h queue to) where
  abbrev to_tail : Change
  to_tail = tail_change h.words.shape queue old (link to)

  abbrev to_head : Change
  to_head = head_change h.words.shape queue old (link to)

  tail_root : IsNoNext h.words.shape to_tail.word
  tail_root node is e = tail_not_next h.words.shape queue node within is (sym e)

  head_root : IsNoNext h.words.shape to_head.word
  head_root node is e = head_not_next h.words.shape queue node within is (sym e)

  tail_stays : RootsStay h (after_change h to_tail) queue
  tail_stays = record {
    head = λ other below ne. put_other h.words.value to_tail.word to_tail.new _ (head_not_tail h.words.shape other queue below within);
    tail = λ other below ne. put_other h.words.value to_tail.word to_tail.new _ (λ e. ne (tail_same h.words.shape other queue below within e));
  }

  head_stays : RootsStay h (after_change h to_head) queue
  head_stays = record {
    head = λ other below ne. put_other h.words.value to_head.word to_head.new _ (λ e. ne (head_same h.words.shape other queue below within e));
    tail = λ other below ne. put_other h.words.value to_head.word to_head.new _ (λ e. head_not_tail h.words.shape queue other within below (sym e));
  }

  same_head : head_of (after_change h to_tail).words queue ≡ head_of h.words queue
  same_head = put_other h.words.value to_tail.word to_tail.new _ (head_not_tail h.words.shape queue queue within within)

  moved_tail : QueueShape (after_change h to_tail) queue
  moved_tail = let s = stand queue within in record {
    count = s.count;
    node_of = s.node_of;
    line = line_agrees h (after_change h to_tail) queue s.count s.node_of (root_nodes h to_tail exist tail_root (Queue queue)) s.line;
    head = (s.head.0, s.head.1, same_head ∙ s.head.2);
    tail = (to, of, put_same h.words.value to_tail.word to_tail.new to_tail.word refl);
  }

  moved_head : QueueShape (after_change h to_head) queue
  moved_head = let s = stand queue within in record {
    count = s.count;
    node_of = s.node_of;
    line = line_agrees h (after_change h to_head) queue s.count s.node_of (root_nodes h to_head exist head_root (Queue queue)) s.line;
    head = (to, of, put_same h.words.value to_head.word to_head.new to_head.word refl);
    tail = (
      s.tail.0,
      s.tail.1,
      put_other h.words.value to_head.word to_head.new _ (λ e. head_not_tail h.words.shape queue queue within within (sym e)) ∙ s.tail.2,
    );
  }

  -- a tail that is moved leaves all values as they are
  pub tail_follows : QueueFollows h queue (queue_values h.words queue) (after_change h (tail_change h.words.shape queue old (link to)))
  tail_follows = record {
    shape = refl;
    stand = queues_stand h (after_change h to_tail) queue refl stand moved_tail (λ s ne. root_nodes h to_tail exist tail_root s) tail_stays;
    lists = queue_lists-set h (after_change h to_tail) queue (queue_values h.words queue) within refl stand
        (values_agree h (after_change h to_tail) queue (root_nodes h to_tail exist tail_root (Queue queue)) same_head (stand queue within))
        (λ s ne. root_nodes h to_tail exist tail_root s) tail_stays;
    facts = root_facts h to_tail exist tail_root;
    nodes = λ s ne. root_nodes h to_tail exist tail_root s;
    words = λ word apart head tail. put_other h.words.value to_tail.word to_tail.new word tail;
  }

  -- the values after a head that is moved are those after the node that it names now
  moved_values : (rank left : ℕ) → h.words.key_of to ≡ rank → suc rank + left ≡ (stand queue within).count
      → queue_values (after_change h to_head).words queue ≡ ranked_values h.words (stand queue within).node_of (suc rank) left
  unfolding moved_head
  moved_values rank left key e = let s = stand queue within in let k = after_change h to_head in
      queue_values-line k queue s.count s.node_of to rank left moved_head.line of key (put_same h.words.value to_head.word to_head.new to_head.word refl) e
      ∙ ranked_values-same h.words k.words s.node_of s.node_of (suc rank) left (λ r b. refl)

  pub head_follows : (rank left : ℕ) → h.words.key_of to ≡ rank → suc rank + left ≡ (stand queue within).count
      → QueueFollows h queue (ranked_values h.words (stand queue within).node_of (suc rank) left)
      (after_change h (head_change h.words.shape queue old (link to)))
  head_follows rank left key e = record {
    shape = refl;
    stand = queues_stand h (after_change h to_head) queue refl stand moved_head (λ s ne. root_nodes h to_head exist head_root s) head_stays;
    lists = queue_lists-set h (after_change h to_head) queue _ within refl stand (moved_values rank left key e)
        (λ s ne. root_nodes h to_head exist head_root s) head_stays;
    facts = root_facts h to_head exist head_root;
    nodes = λ s ne. root_nodes h to_head exist head_root s;
    words = λ word apart head tail. put_other h.words.value to_head.word to_head.new word head;
  }
