-- A look along a queue sees its first values.
use Rattle.std.proofs.Common.{◌≡◌, ℕ, zero, suc, ◌+◌, ◌≤◌, ◌⊎◌, List, [], ◌∷◌, map, length, take, refl, sym, ap, ◌∙◌, subst, ⊎_elim, arith}
use Rattle.std.specs.List.{All}
use Rattle.std.proofs.lemmas.List.{take_all}
use Rattle.std.proofs.lemmas.List.Elements.{All-head, All-tail}
use Rattle.md_machine.specs.LogicalHeap.{LogicalWords, LogicalHeap, Holds, next_of}
use Rattle.md_machine.specs.declared.certificate.WordValue.{WordValue}
use Rattle.md_queue_law.specs.QueueShape.{link, head_of, IsOf, QueueShape}
use Rattle.md_queue_law.specs.QueueValues.{queue_values}
use Rattle.md_queue_law.specs.QueueCertificates.{Seen, next_is, has_next, has_value, facts_along, last_seen, LooksEnough, LooksToEnd}
use Rattle.md_queue_law.specs.Laws.Words.{link_not_zero}
use Rattle.md_queue_law.specs.Laws.Walk.{ranked_values}
use Rattle.md_queue_law.specs.Laws.Agreement.{queue_values-line, past}
use Rattle.md_queue_law.specs.Laws.Named.{ends_is_last, goes_to_next}
use Rattle.md_queue_law.specs.Laws.Heads.{dummy_is_of}

-- a recorded word has its value
abbrev pub IsThere : LogicalHeap → WordValue → Type 0
IsThere h r = h.words.value r.word ≡ r.value

take-ranked_values : (w : LogicalWords) (node_of : ℕ → ℕ) (n rank left : ℕ) → n ≤ left
    → take n (ranked_values w node_of rank left) ≡ ranked_values w node_of rank n
take-ranked_values w node_of zero rank left b = refl
take-ranked_values w node_of (suc n) rank zero b = absurd (omega arith)
take-ranked_values w node_of (suc n) rank (suc left) b =
    ap (λ vs. w.value_of_node (node_of rank) ∷ vs) (take-ranked_values w node_of n (suc rank) left (omega arith))

length-ranked_values : (w : LogicalWords) (node_of : ℕ → ℕ) (rank left : ℕ) → length (ranked_values w node_of rank left) ≡ left
length-ranked_values w node_of rank zero = refl
length-ranked_values w node_of rank (suc left) = ap suc (length-ranked_values w node_of (suc rank) left)

module _ (h : LogicalHeap) (queue : ℕ) (s : QueueShape h queue) where
  -- where a look from a node has come to
  record CameTo (from : ℕ) (seen : List Seen) : Type 0 where
    of : IsOf h queue (last_seen from seen)
    rank : h.words.key_of (last_seen from seen) ≡ h.words.key_of from + length seen
    values : map (λ x. x.value) seen ≡ ranked_values h.words s.node_of (suc (h.words.key_of from)) (length seen)

  came_to : (seen : List Seen) (from : ℕ) → IsOf h queue from → All (Holds h) (facts_along queue from seen) → CameTo from seen
  came_to [] from of facts = record { of = of; rank = omega arith; values = refl }
  came_to (x ∷ seen) from of facts =
      let along = has_value queue x.node x.value ∷ facts_along queue x.node seen in
      let later_facts = All-tail (Holds h) (has_next queue from (link x.node)) along facts in
      let fact = All-head (Holds h) (has_value queue x.node x.value) (facts_along queue x.node seen) later_facts in
      let e : next_of h.words from ≡ link x.node = (All-head (Holds h) (has_next queue from (link x.node)) along facts).next.0 in
      let goes = goes_to_next h queue s.count s.node_of s.line from x.node of e (link_not_zero h.words.shape x.node (s.line.exist x.node fact.placed)) in
      let key : h.words.key_of x.node ≡ suc (h.words.key_of from) = ap h.words.key_of goes.1 ∙ (s.line.placed (suc (h.words.key_of from)) goes.0).1 in
      let later = came_to seen x.node fact.placed (All-tail (Holds h) (has_value queue x.node x.value) (facts_along queue x.node seen) later_facts) in
      let rank = later.rank in
      record {
        of = later.of;
        rank = omega arith;
        values = ap (λ v. v ∷ map (λ x. x.value) seen) (sym fact.value ∙ ap h.words.value_of_node goes.1)
            ∙ ap (λ vs. h.words.value_of_node (s.node_of (suc (h.words.key_of from))) ∷ vs)
            (later.values ∙ ap (λ k. ranked_values h.words s.node_of (suc k) (length seen)) key);
      }

  -- a look that begins at the head sees the first values
  pub first_values : (dummy n : ℕ) (seen : List Seen) (ending : List WordValue) → head_of h.words queue ≡ link dummy
      → LooksEnough n seen ending ⊎ LooksToEnd h.words.shape dummy n seen ending
      → All (IsThere h) ending → All (Holds h) (facts_along queue dummy seen)
      → map (λ x. x.value) seen ≡ take n (queue_values h.words queue)
  first_values dummy n seen ending named ends at_end facts =
      let of = dummy_is_of h queue s dummy named in
      let came = came_to seen dummy of facts in
      let rest = past h queue s.count s.node_of s.line dummy of in
      let left = rest.0 in let left_is = rest.1 in
      let whole : queue_values h.words queue ≡ ranked_values h.words s.node_of (suc (h.words.key_of dummy)) left
      = queue_values-line h queue s.count s.node_of dummy (h.words.key_of dummy) left s.line of refl named left_is in
      let below = (s.line.ranked (last_seen dummy seen) came.of).0 in
      let rank = came.rank in
      came.values ∙ ⊎_elim
      (λ e. let all = e.all in
      ap (ranked_values h.words s.node_of (suc (h.words.key_of dummy))) all
      ∙ sym (take-ranked_values h.words s.node_of n (suc (h.words.key_of dummy)) left (omega arith)))
      (λ e. let fewer = e.fewer in
      let zero_next : next_of h.words (last_seen dummy seen) ≡ 0
      = All-head (IsThere h) (next_is h.words.shape (last_seen dummy seen) 0) [] (subst (All (IsThere h)) e.is at_end) in
      let last = ends_is_last h queue s.count s.node_of s.line (last_seen dummy seen) came.of zero_next in
      let same : length seen ≡ left = omega arith in
      ap (ranked_values h.words s.node_of (suc (h.words.key_of dummy))) same
      ∙ sym (take_all n (ranked_values h.words s.node_of (suc (h.words.key_of dummy)) left)
      (let len = length-ranked_values h.words s.node_of (suc (h.words.key_of dummy)) left in omega arith)))
      ends
      ∙ ap (take n) (sym whole)
