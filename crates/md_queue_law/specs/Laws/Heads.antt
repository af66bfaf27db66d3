-- What a queue's head and the next word of its node say of the queue's values.
use Rattle.std.proofs.Common.{◌≡◌, ℕ, suc, ◌+◌, ◌-◌, [], ◌∷◌, refl, sym, ap, ◌∙◌, arith}
use Rattle.md_machine.specs.LogicalHeap.{LogicalHeap, next_of}
use Rattle.md_queue_law.specs.QueueShape.{link, head_of, IsOf, QueueShape}
use Rattle.md_queue_law.specs.QueueValues.{queue_values}
use Rattle.md_queue_law.specs.Laws.Words.{link_not_zero}
use Rattle.md_queue_law.specs.Laws.Walk.{ranked_values}
use Rattle.md_queue_law.specs.Laws.Agreement.{queue_values-line}
use Rattle.md_queue_law.specs.Laws.Named.{named_is_of, ends_is_last, goes_to_next}

module _ (h : LogicalHeap) (queue : ℕ) (s : QueueShape h queue) (dummy : ℕ) (named : head_of h.words queue ≡ link dummy) where
  pub dummy_is_of : IsOf h queue dummy
  dummy_is_of = named_is_of h queue (head_of h.words queue) dummy s.head named

  -- the next word of the head's node is 0: the queue is empty
  pub values_none : next_of h.words dummy ≡ 0 → queue_values h.words queue ≡ []
  values_none e =
      let last = ends_is_last h queue s.count s.node_of s.line dummy dummy_is_of e in
      queue_values-line h queue s.count s.node_of dummy (h.words.key_of dummy) 0 s.line dummy_is_of refl named (omega arith)

  -- it names a node: that has the next rank, and its value is the first one
  pub record First (first : ℕ) : Type 0 where
    pub left : ℕ
    pub rest : suc (suc (h.words.key_of dummy)) + left ≡ s.count
    pub rank : h.words.key_of first ≡ suc (h.words.key_of dummy)
    pub values : queue_values h.words queue ≡ h.words.value_of_node first ∷ ranked_values h.words s.node_of (suc (suc (h.words.key_of dummy))) left

  pub first_of : (first : ℕ) → IsOf h queue first → next_of h.words dummy ≡ link first → First first
  first_of first of e =
      let goes = goes_to_next h queue s.count s.node_of s.line dummy first dummy_is_of e (link_not_zero h.words.shape first (s.line.exist first of)) in
      let below = goes.0 in
      let left = s.count - suc (suc (h.words.key_of dummy)) in
      record {
        left = left;
        rest = omega arith;
        rank = ap h.words.key_of goes.1 ∙ (s.line.placed (suc (h.words.key_of dummy)) below).1;
        values = queue_values-line h queue s.count s.node_of dummy (h.words.key_of dummy) (suc left) s.line dummy_is_of refl named (omega arith)
            ∙ ap (λ n. h.words.value_of_node n ∷ ranked_values h.words s.node_of (suc (suc (h.words.key_of dummy))) left) (sym goes.1);
      }
