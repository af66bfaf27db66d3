-- The node that a queue's word names is of the queue; and a next word names the node of the next rank, or none.
use Rattle.std.proofs.Common.{◌≡◌, ◌≢◌, ℕ, suc, ◌<◌, ◌⊎◌, sym, ap, ◌∙◌, subst, inl, inr, ⊎_elim, arith}
use Rattle.std.proofs.lemmas.Bool.{cases_lt}
use Rattle.md_machine.specs.LogicalHeap.{LogicalHeap, next_of}
use Rattle.md_queue_law.specs.QueueShape.{link, IsOf, NamesOneOf, StandInLine}
use Rattle.md_queue_law.specs.Laws.Words.{link-injective, link_not_zero}
use Rattle.md_queue_law.specs.Laws.Walk.{node_exists}

-- a word that names one node of the queue names no other
pub named_is_of : (h : LogicalHeap) (queue value node : ℕ) → NamesOneOf h queue value → value ≡ link node → IsOf h queue node
named_is_of h queue value node one e = subst (IsOf h queue) (link-injective one.0 node (sym one.2 ∙ e)) one.1

module _ (h : LogicalHeap) (queue count : ℕ) (node_of : ℕ → ℕ) (line : StandInLine h queue count node_of) where
  -- the next word of a node of the queue: of the last one, and of another
  pub next_cases : (node : ℕ) → IsOf h queue node
      → ((suc (h.words.key_of node) ≡ count) × (next_of h.words node ≡ 0))
      ⊎ ((suc (h.words.key_of node) < count) × (next_of h.words node ≡ link (node_of (suc (h.words.key_of node)))))
  next_cases node of =
      let r = line.ranked node of in
      let below = r.0 in
      ⊎_elim
      (λ lt. inr (lt, ap (next_of h.words) (sym r.1) ∙ line.next (h.words.key_of node) lt))
      (λ ge. let e : suc (h.words.key_of node) ≡ count = omega arith in inl (e, ap (next_of h.words) (sym r.1) ∙ line.last (h.words.key_of node) e))
      (cases_lt (suc (h.words.key_of node)) count)

  -- a node whose next word is 0 is the last one
  pub ends_is_last : (node : ℕ) → IsOf h queue node → next_of h.words node ≡ 0 → suc (h.words.key_of node) ≡ count
  ends_is_last node of e = ⊎_elim (λ l. l.0)
      (λ n. absurd (link_not_zero h.words.shape _ (node_exists h queue count node_of line _ n.0) (sym n.1 ∙ e)))
      (next_cases node of)

  -- a next word that isn't 0 names the node of the next rank
  pub goes_to_next : (node next : ℕ) → IsOf h queue node → next_of h.words node ≡ link next → link next ≢ 0
      → (suc (h.words.key_of node) < count) × (next ≡ node_of (suc (h.words.key_of node)))
  goes_to_next node next of e ne = ⊎_elim (λ l. absurd (ne (sym e ∙ l.1)))
      (λ n. (n.0, link-injective next _ (sym e ∙ n.1)))
      (next_cases node of)
