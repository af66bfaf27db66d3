-- Ranks still rise along a queue's links after one change of a word, and after one more node.
use Rattle.std.proofs.Common.{◌≡◌, ◌≢◌, ℕ, zero, suc, ◌-◌, ◌<◌, ◌⊎◌, Some, None, refl, sym, ap, ◌∙◌, subst, inl, inr, ⊎_elim, arith}
use Rattle.std.proofs.lemmas.Bool.{cases_eq}
use Rattle.md_words.specs.declared.shape.Shape.{Shape}
use Rattle.md_words.specs.Layout.{address, node_count, IsNode}
use Rattle.md_words.specs.Place.{node_next, queue_head, queue_tail}
use Rattle.md_machine.specs.declared.node.Structure.{Structure}
use Rattle.md_machine.specs.declared.node.Structure.TheVariants.{Queue}
use Rattle.md_machine.specs.declared.certificate.Change.{Change}
use Rattle.md_machine.specs.declared.certificate.NewNode.{NewNode}
use Rattle.md_machine.specs.LogicalHeap.{LogicalHeap, IsPlaced, changed, after_node, put}
use Rattle.md_machine.specs.SeesNodes.{SeesNodes}
use Rattle.md_machine.proofs.chain.Along.{nodes_changed, nodes_placed}
use Rattle.md_queue_law.specs.QueueShape.{IsOf, NamesOneOf}
use Rattle.md_queue_law.specs.Rising.{NamesRank, RanksLink, QueueRises}
use Rattle.md_queue_law.specs.Laws.Words.{next_same, head_not_next, tail_not_next}
use Rattle.md_queue_law.specs.Laws.Pigeonhole.{pigeonhole}
use Rattle.md_queue_law.specs.Laws.Following.{put_same, put_other, IsNoNext}
use Rattle.md_queue_law.specs.Laws.RootChanges.{after_change}

-- a value that a word of a queue may get: in head and tail one that names a node of the queue, in a next word one that
-- names a node of the next rank. It may be a node of a later heap
pub record MayGet (h k : LogicalHeap) (queue word new : ℕ) : Type 0 where
  pub in_head : word ≡ address h.words.shape (queue_head queue) → NamesOneOf k queue new
  pub in_tail : word ≡ address h.words.shape (queue_tail queue) → NamesOneOf k queue new
  pub in_next : (node : ℕ) → IsOf h queue node → word ≡ address h.words.shape (node_next node)
      → NamesRank k queue (suc (h.words.key_of node)) new

-- what a new node of the queue needs: the node before it, and a next word for its rank
pub record MayJoin (h : LogicalHeap) (queue : ℕ) (n : NewNode) : Type 0 where
  pub next : NamesRank h queue (suc n.key) n.next
  pub lower : (rank : ℕ) → n.key ≡ suc rank → (node : ℕ) × IsOf h queue node × (h.words.key_of node ≡ rank)

module _ (h : LogicalHeap) (queue : ℕ) (r : RanksLink h queue) (c : Change) where
  -- a word after the change
  new_or_same : (word : ℕ)
      → ((c.word ≡ word) × ((changed h.words c).value word ≡ c.new)) ⊎ ((changed h.words c).value word ≡ h.words.value word)
  new_or_same word = ⊎_elim
      (λ e. inl (sym e, put_same h.words.value c.word c.new word e))
      (λ ne. inr (put_other h.words.value c.word c.new word ne))
      (cases_eq word c.word)

  ranks_changed : MayGet h h queue c.word c.new → RanksLink (after_change h c) queue
  ranks_changed may = record {
    head = ⊎_elim
        (λ t. subst (NamesOneOf h queue) (sym t.1) (may.in_head t.0))
        (λ e. subst (NamesOneOf h queue) (sym e) r.head)
        (new_or_same (address h.words.shape (queue_head queue)));
    tail = ⊎_elim
        (λ t. subst (NamesOneOf h queue) (sym t.1) (may.in_tail t.0))
        (λ e. subst (NamesOneOf h queue) (sym e) r.tail)
        (new_or_same (address h.words.shape (queue_tail queue)));
    next = λ node of. ⊎_elim
        (λ t. subst (NamesRank h queue (suc (h.words.key_of node))) (sym t.1) (may.in_next node of t.0))
        (λ e. subst (NamesRank h queue (suc (h.words.key_of node))) (sym e) (r.next node of))
        (new_or_same (address h.words.shape (node_next node)));
    filled = r.filled;
  }

  module _ (exist : (node : ℕ) → IsPlaced h node → IsNode h.words.shape node) (within : queue < h.words.shape.queues) (n : NewNode)
      (is_node : IsNode h.words.shape n.node) (fresh : h.placed n.node ≡ None) where
    abbrev with_new : LogicalHeap
    with_new = after_node (after_change h c) n

    abbrev next_word : (node : ℕ) → ℕ
    next_word node = address h.words.shape (node_next node)

    not_new : (node : ℕ) → IsOf h queue node → node ≢ n.node
    not_new node of e = let i : h.placed node ≡ Some (Queue queue) = of in absurd (cc (ap h.placed e, i, fresh))

    still_of : (node : ℕ) → IsOf h queue node → IsOf with_new queue node
    still_of node of = put_other h.placed n.node (Some n.structure) node (not_new node of) ∙ of

    same_key : (node : ℕ) → IsOf h queue node → with_new.words.key_of node ≡ h.words.key_of node
    same_key node of = put_other h.words.key_of n.node n.key node (not_new node of)

    -- a word that isn't the new node's next word
    word_kept : (word : ℕ) → word ≢ next_word n.node → with_new.words.value word ≡ (changed h.words c).value word
    word_kept word ne = put_other (changed h.words c).value (next_word n.node) n.next word ne

    -- what named nodes still does
    one_kept : (value : ℕ) → NamesOneOf h queue value → NamesOneOf with_new queue value
    one_kept value t = (t.0, still_of t.0 t.1, t.2)

    rank_kept : (rank value : ℕ) → NamesRank h queue rank value → NamesRank with_new queue rank value
    rank_kept rank value = ⊎_elim inl (λ t. inr (t.0, still_of t.0 t.1, t.2, same_key t.0 t.1 ∙ t.3))

    lower_kept : (rank : ℕ) → ((node : ℕ) × IsOf h queue node × (h.words.key_of node ≡ rank))
        → (node : ℕ) × IsOf with_new queue node × (with_new.words.key_of node ≡ rank)
    lower_kept rank t = (t.0, still_of t.0 t.1, same_key t.0 t.1 ∙ t.2)

    root_kept : (word : ℕ) → IsNoNext h.words.shape word → (c.word ≡ word → NamesOneOf with_new queue c.new)
        → NamesOneOf h queue (h.words.value word)
        → NamesOneOf with_new queue (with_new.words.value word)
    root_kept word apart may was =
        subst (NamesOneOf with_new queue) (sym (word_kept word (λ e. apart n.node is_node (sym e)))) (⊎_elim
        (λ t. subst (NamesOneOf with_new queue) (sym t.1) (may t.0))
        (λ e. subst (NamesOneOf with_new queue) (sym e) (one_kept (h.words.value word) was))
        (new_or_same word))

    new_next : (node : ℕ) → node ≡ n.node → NamesRank h queue (suc n.key) n.next
        → NamesRank with_new queue (suc (with_new.words.key_of node)) (with_new.words.value (next_word node))
    new_next node e may =
        subst (λ key. NamesRank with_new queue (suc key) (with_new.words.value (next_word node))) (sym (put_same h.words.key_of n.node n.key node e))
        (subst (NamesRank with_new queue (suc n.key)) (sym (put_same (changed h.words c).value (next_word n.node) n.next (next_word node) (ap next_word e)))
        (rank_kept (suc n.key) n.next may))

    old_next : (node : ℕ) → IsOf h queue node → MayGet h with_new queue c.word c.new
        → NamesRank with_new queue (suc (with_new.words.key_of node)) (with_new.words.value (next_word node))
    old_next node of may =
        let apart : next_word node ≢ next_word n.node =
        λ e. not_new node of (next_same h.words.shape node n.node (exist node (Queue queue, of)) is_node e) in
        subst (λ key. NamesRank with_new queue (suc key) (with_new.words.value (next_word node))) (sym (same_key node of))
        (subst (NamesRank with_new queue (suc (h.words.key_of node))) (sym (word_kept (next_word node) apart))
        (⊎_elim
        (λ t. subst (NamesRank with_new queue (suc (h.words.key_of node))) (sym t.1) (may.in_next node of t.0))
        (λ e. subst (NamesRank with_new queue (suc (h.words.key_of node))) (sym e)
        (rank_kept (suc (h.words.key_of node)) (h.words.value (next_word node)) (r.next node of)))
        (new_or_same (next_word node))))

    -- a node of the queue is the new one, or one of before
    new_or_old : (node : ℕ) → IsOf with_new queue node
        → ((node ≡ n.node) × (n.structure ≡ Queue queue)) ⊎ IsOf h queue node
    new_or_old node of = ⊎_elim
        (λ e. let at = put_same h.placed n.node (Some n.structure) node e in inl (e, cc (at, of)))
        (λ ne. inr (sym (put_other h.placed n.node (Some n.structure) node ne) ∙ of))
        (cases_eq node n.node)

    ranks_placed : MayGet h with_new queue c.word c.new → (n.structure ≡ Queue queue → MayJoin h queue n)
        → RanksLink with_new queue
    ranks_placed may joins = record {
      head = root_kept (address h.words.shape (queue_head queue)) (λ node is e. head_not_next h.words.shape queue node within is (sym e)) may.in_head r.head;
      tail = root_kept (address h.words.shape (queue_tail queue)) (λ node is e. tail_not_next h.words.shape queue node within is (sym e)) may.in_tail r.tail;
      next = λ node of. ⊎_elim (λ t. new_next node t.0 (joins t.1).next) (λ was. old_next node was may) (new_or_old node of);
      filled = λ node rank of e. ⊎_elim
          (λ t. lower_kept rank ((joins t.1).lower rank (sym (put_same h.words.key_of n.node n.key node t.0) ∙ e)))
          (λ was. lower_kept rank (r.filled node rank was (sym (same_key node was) ∙ e)))
          (new_or_old node of);
    }

-- what a value names in a heap it names in what a transaction sees of it
pub one_seen : (own h : LogicalHeap) (queue value : ℕ) → SeesNodes own h → NamesOneOf h queue value
    → NamesOneOf own queue value
one_seen own h queue value same t = (t.0, same.placed t.0 ∙ t.1, t.2)

pub rank_seen : (own h : LogicalHeap) (queue rank value : ℕ) → SeesNodes own h → NamesRank h queue rank value
    → NamesRank own queue rank value
rank_seen own h queue rank value same = ⊎_elim inl (λ t. inr (t.0, same.placed t.0 ∙ t.1, t.2, same.key_of t.0 ∙ t.3))

may_get_seen : (own h later k : LogicalHeap) (queue word new : ℕ) → SeesNodes own h → SeesNodes later k
    → MayGet h k queue word new → MayGet own later queue word new
may_get_seen own h later k queue word new same after may = record {
  in_head = λ e. one_seen later k queue new after (may.in_head (e ∙ ap (λ (s : Shape). address s (queue_head queue)) same.shape));
  in_tail = λ e. one_seen later k queue new after (may.in_tail (e ∙ ap (λ (s : Shape). address s (queue_tail queue)) same.shape));
  in_next = λ node of e. subst (λ key. NamesRank later queue (suc key) new) (sym (same.key_of node))
      (rank_seen later k queue (suc (h.words.key_of node)) new after
      (may.in_next node (sym (same.placed node) ∙ of) (e ∙ ap (λ (s : Shape). address s (node_next node)) same.shape)));
}

may_join_seen : (own h : LogicalHeap) (queue : ℕ) (n : NewNode) → SeesNodes own h → MayJoin h queue n
    → MayJoin own queue n
may_join_seen own h queue n same may = record {
  next = rank_seen own h queue (suc n.key) n.next same may.next;
  lower = λ rank e. let t = may.lower rank e in (t.0, same.placed t.0 ∙ t.1, same.key_of t.0 ∙ t.2);
}

module _ (own h : LogicalHeap) (queue : ℕ) (b : QueueRises own h queue) (c : Change) where
  pub both_changed : MayGet h h queue c.word c.new → QueueRises (after_change own c) (after_change h c) queue
  both_changed may = record {
    nodes = nodes_changed own h c b.nodes;
    seen = ranks_changed own queue b.seen c (may_get_seen own h own h queue c.word c.new b.nodes b.nodes may);
    there = ranks_changed h queue b.there c may;
  }

  pub both_placed : queue < h.words.shape.queues → (n : NewNode) → IsNode h.words.shape n.node → h.placed n.node ≡ None
      → MayGet h (after_node (after_change h c) n) queue c.word c.new → (n.structure ≡ Queue queue → MayJoin h queue n)
      → QueueRises (after_node (after_change own c) n) (after_node (after_change h c) n) queue
  both_placed within n is_node fresh may joins =
      let after = nodes_placed (after_change own c) (after_change h c) n is_node (nodes_changed own h c b.nodes) in
      record {
        nodes = after;
        seen = ranks_placed own queue b.seen c
            (λ node placed. subst (λ (s : Shape). IsNode s node) (sym b.nodes.shape) (b.nodes.exist node (placed.0, sym (b.nodes.placed node) ∙ placed.1)))
            (subst (λ (s : Shape). queue < s.queues) (sym b.nodes.shape) within) n
            (subst (λ (s : Shape). IsNode s n.node) (sym b.nodes.shape) is_node) (b.nodes.placed n.node ∙ fresh)
            (may_get_seen own h (after_node (after_change own c) n) (after_node (after_change h c) n) queue c.word c.new b.nodes after may)
            (λ e. may_join_seen own h queue n b.nodes (joins e));
        there = ranks_placed h queue b.there c b.nodes.exist within n is_node fresh may joins;
      }

-- a word that is none of a queue's: neither head nor tail nor a next word, or the next word of a node of another structure
abbrev pub IsAway : LogicalHeap → (queue word : ℕ) → Type 0
IsAway h queue word =
    ((word ≢ address h.words.shape (queue_head queue)) × (word ≢ address h.words.shape (queue_tail queue)) × IsNoNext h.words.shape word)
    ⊎ ((node : ℕ) × (s : Structure) × (h.placed node ≡ Some s) × (s ≢ Queue queue) × (word ≡ address h.words.shape (node_next node)))

-- it may get any value
pub away_may : (own h : LogicalHeap) (queue : ℕ) → QueueRises own h queue → queue < h.words.shape.queues
    → (k : LogicalHeap) (word new : ℕ) → IsAway h queue word → MayGet h k queue word new
away_may own h queue b within k word new away = record {
  in_head = λ e. ⊎_elim (λ t. absurd (t.0 e))
      (λ t. absurd (head_not_next h.words.shape queue t.0 within (b.nodes.exist t.0 (t.1, t.2)) (sym e ∙ t.4))) away;
  in_tail = λ e. ⊎_elim (λ t. absurd (t.1 e))
      (λ t. absurd (tail_not_next h.words.shape queue t.0 within (b.nodes.exist t.0 (t.1, t.2)) (sym e ∙ t.4))) away;
  in_next = λ node of e. ⊎_elim
      (λ t. absurd (t.2 node (b.nodes.exist node (Queue queue, of)) (sym e)))
      (λ t. let same = next_same h.words.shape t.0 node (b.nodes.exist t.0 (t.1, t.2)) (b.nodes.exist node (Queue queue, of)) (sym t.4 ∙ e) in
      let there = t.2 in let ne = t.3 in let i : h.placed node ≡ Some (Queue queue) = of in absurd (ne (cc (same, there, i))))
      away;
}

-- of each rank up to a node's there is a node, so there are no more ranks than nodes
module _ (h : LogicalHeap) (queue : ℕ) (r : RanksLink h queue) (exist : (node : ℕ) → IsPlaced h node → IsNode h.words.shape node) where
  abbrev HasRanks : (count : ℕ) → (ℕ → ℕ) → Type 0
  HasRanks count f = (rank : ℕ) → rank < count → IsOf h queue (f rank) × (h.words.key_of (f rank) ≡ rank)

  ranks_below : (rank node : ℕ) → IsOf h queue node → h.words.key_of node ≡ rank → (f : ℕ → ℕ) × HasRanks (suc rank) f
  ranks_below zero node of e = (λ rank. node, λ rank below. (of, e ∙ omega arith))
  ranks_below (suc rank) node of e =
      let lower = r.filled node rank of e in
      let rest = ranks_below rank lower.0 lower.1 lower.2 in
      let f : ℕ → ℕ = put rest.0 (suc rank) node in
      let at : (i : ℕ) → ℕ → Type 0 = λ i n. IsOf h queue n × (h.words.key_of n ≡ i) in (
        f,
        λ i below. ⊎_elim
            (λ same. subst (at i) (sym (put_same rest.0 (suc rank) node i same)) (of, e ∙ sym same))
            (λ ne. subst (at i) (sym (put_other rest.0 (suc rank) node i ne)) (rest.1 i (omega (arith, below, ne))))
            (cases_eq i (suc rank)),
      )

  pub link_ranks_fit : (node : ℕ) → IsOf h queue node → h.words.key_of node < node_count h.words.shape
  link_ranks_fit node of =
      let f = ranks_below (h.words.key_of node) node of refl in
      let is : (i : ℕ) → i < suc (h.words.key_of node)
      → IsNode h.words.shape (f.0 i) = λ i below. exist (f.0 i) (Queue queue, (f.1 i below).0) in
      let fits = pigeonhole (node_count h.words.shape) (suc (h.words.key_of node)) (λ i. f.0 i - 1)
      (λ i below. let n = is i below in let low = n.0 in let high = n.1 in omega arith)
      (λ i j hi hj e. let low = (is i hi).0 in let also = (is j hj).0 in
      let same : f.0 i ≡ f.0 j = omega arith in
      sym (f.1 i hi).1 ∙ ap h.words.key_of same ∙ (f.1 j hj).1) in
      omega (arith, fits)
