-- Heaps that agree where nodes are placed agree on each queue; and the words of queues name placed nodes.
use Rattle.std.proofs.Common.{◌≡◌, ℕ, suc, ◌<◌, refl, sym, ap, ◌∙◌, subst, inl, inr, ⊎_elim}
use Rattle.std.specs.Prelude.{IsTrue}
use Rattle.md_words.specs.declared.shape.Shape.{Shape}
use Rattle.md_words.specs.Link.{linked_node}
use Rattle.md_words.specs.Place.{Place, node_next, queue_head, queue_tail, is_counted}
use Rattle.md_words.specs.Layout.{address, Exists}
use Rattle.md_words.proofs.Places.{counted_by_place}
use Rattle.md_machine.specs.declared.node.Structure.{Structure}
use Rattle.md_machine.specs.declared.node.Structure.TheVariants.{Queue}
use Rattle.md_machine.specs.LogicalHeap.{LogicalHeap, next_of, IsPlaced, IsNoUnplacedNext, AgreeWherePlaced}
use Rattle.md_machine.specs.Meaning.{NamesPlaced}
use Rattle.md_queue_law.specs.QueueShape.{IsOf, NamesOneOf, QueueShape, QueuesStand}
use Rattle.md_queue_law.specs.QueueValues.{queue_lists}
use Rattle.md_queue_law.specs.Laws.Words.{linked_node-link, linked_node-zero, next_same, head_not_next, tail_not_next}
use Rattle.md_queue_law.specs.Laws.Agreement.{PlacedExist, NodesAgree, QueueAgrees, shape_agrees, values_agree}
use Rattle.md_queue_law.specs.Laws.Lists.{lists_same}
use Rattle.md_queue_law.specs.Laws.Named.{next_cases}

module _ (h k : LogicalHeap) (exist : PlacedExist h) (a : AgreeWherePlaced h k) where
  word_agrees : (p : Place) → Exists h.words.shape p → IsTrue (is_counted p) → IsNoUnplacedNext h (address h.words.shape p)
      → k.words.value (address k.words.shape p) ≡ h.words.value (address h.words.shape p)
  word_agrees p is counted next = ap (λ (s : Shape). k.words.value (address s p)) a.shape
      ∙ a.value (address h.words.shape p) ((counted_by_place h.words.shape p is).1 counted) next

  pub nodes_agree : (s : Structure) → NodesAgree h k s
  nodes_agree s = record {
    shape = a.shape;
    placed = λ node at. a.placed node ∙ at;
    only = λ node at. sym (a.placed node) ∙ at;
    key_of = λ node at. a.key_of node (s, at);
    value_of_node = λ node at. a.value_of_node node (s, at);
    next = λ node at. word_agrees (node_next node) (exist node s at) refl
        (λ other is e. subst (IsPlaced h) (next_same h.words.shape node other (exist node s at) is e) (s, at));
  }

  pub queue_agrees : (queue : ℕ) → queue < h.words.shape.queues → QueueAgrees h k queue
  queue_agrees queue within = record {
    nodes = nodes_agree (Queue queue);
    head = word_agrees (queue_head queue) within refl (λ node is e. absurd (head_not_next h.words.shape queue node within is e));
    tail = word_agrees (queue_tail queue) within refl (λ node is e. absurd (tail_not_next h.words.shape queue node within is e));
  }

  -- the queues stand in both, with the same values
  pub queues_framed : QueuesStand h → QueuesStand k × (queue_lists k.words ≡ queue_lists h.words)
  queues_framed stand = (
    (λ queue below. let within = subst (λ (s : Shape). queue < s.queues) a.shape below in
        shape_agrees h k queue (queue_agrees queue within) (stand queue within)),
    lists_same h.words k.words a.shape
        (λ queue within. values_agree h k queue (nodes_agree (Queue queue)) (queue_agrees queue within).head (stand queue within)),
  )

module _ (h : LogicalHeap) (queue : ℕ) (s : QueueShape h queue) where
  pub one_names_placed : (value : ℕ) → NamesOneOf h queue value → NamesPlaced h value
  one_names_placed value one = inr (Queue queue, ap h.placed (ap linked_node one.2 ∙ linked_node-link one.0) ∙ one.1)

  -- the next word of a node of the queue
  pub next_names_placed : (node : ℕ) → IsOf h queue node → NamesPlaced h (next_of h.words node)
  next_names_placed node of = ⊎_elim
      (λ last. inl (ap linked_node last.1 ∙ linked_node-zero))
      (λ next. one_names_placed (next_of h.words node) (s.node_of (suc (h.words.key_of node)), (s.line.placed (suc (h.words.key_of node)) next.0).0, next.1))
      (next_cases h queue s.count s.node_of s.line node of)
