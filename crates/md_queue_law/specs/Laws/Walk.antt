-- The walk along next words gives the values of a queue's line, by rank.
use Rattle.std.proofs.Common.{◌≡◌, ◌≢◌, ◌-◌, ℕ, zero, suc, ◌+◌, ◌<◌, ◌≤◌, eqb, List, [], ◌∷◌, refl, sym, ap, ◌∙◌, arith}
use Rattle.std.proofs.lemmas.Bool.{cond-true, cond-false, eq-eqb, ne_eqb}
use Rattle.md_words.specs.Link.{linked_node}
use Rattle.md_words.specs.Layout.{IsNode, node_count}
use Rattle.md_machine.specs.LogicalHeap.{LogicalWords, LogicalHeap, next_of}
use Rattle.md_queue_law.specs.QueueShape.{link, StandInLine}
use Rattle.md_queue_law.specs.QueueValues.{node_after, values_after}
use Rattle.md_queue_law.specs.Laws.Pigeonhole.{pigeonhole}
use Rattle.md_queue_law.specs.Laws.Words.{linked_node-link, link_not_zero}

-- the values of the nodes of so many ranks, from one on
abbrev pub ranked_values : LogicalWords → (node_of : ℕ → ℕ) → (rank count : ℕ) → List ℕ
ranked_values w node_of rank zero = []
ranked_values w node_of rank (suc count) = w.value_of_node (node_of rank) ∷ ranked_values w node_of (suc rank) count

-- one step of the walk
pub walk_ends : (w : LogicalWords) (most node : ℕ) → next_of w node ≡ 0 → values_after w most node ≡ []
walk_ends w zero node e = refl
walk_ends w (suc most) node e = cond-true (eqb (next_of w node) 0) _ _ (eq-eqb (next_of w node) 0 e)

pub walk_goes : (w : LogicalWords) (most node next : ℕ) → next_of w node ≡ link next → link next ≢ 0
    → values_after w (suc most) node ≡ w.value_of_node next ∷ values_after w most next
walk_goes w most node next e ne =
    let to : node_after w node ≡ next = ap linked_node e ∙ linked_node-link next in
    cond-false (eqb (next_of w node) 0) _ _ (ne_eqb (next_of w node) 0 (λ z. ne (sym e ∙ z)))
    ∙ ap (λ n. w.value_of_node n ∷ values_after w most n) to

module _ (h : LogicalHeap) (queue count : ℕ) (node_of : ℕ → ℕ) (line : StandInLine h queue count node_of) where
  -- the node of a rank is a node, and its rank is its own
  pub node_exists : (rank : ℕ) → rank < count → IsNode h.words.shape (node_of rank)
  node_exists rank b = line.exist (node_of rank) (line.placed rank b).0

  pub ranks_differ : (i j : ℕ) → i < count → j < count → node_of i ≡ node_of j → i ≡ j
  ranks_differ i j hi hj e = sym (line.placed i hi).1 ∙ ap h.words.key_of e ∙ (line.placed j hj).1

  -- a queue has no more nodes than the field
  pub line_fits : count ≤ node_count h.words.shape
  line_fits = pigeonhole (node_count h.words.shape) count (λ rank. node_of rank - 1)
      (λ rank b. let is = node_exists rank b in let low = is.0 in let high = is.1 in omega arith)
      (λ i j hi hj e. let is_i = (node_exists i hi).0 in let is_j = (node_exists j hj).0 in ranks_differ i j hi hj (omega arith))

  -- from the node of a rank on
  pub walk-line : (left rank most : ℕ) → suc rank + left ≡ count → left ≤ most
      → values_after h.words most (node_of rank) ≡ ranked_values h.words node_of (suc rank) left
  walk-line zero rank most e fits = walk_ends h.words most (node_of rank) (line.last rank (omega arith))
  walk-line (suc left) rank zero e fits = absurd (omega arith)
  walk-line (suc left) rank (suc most) e fits =
      walk_goes h.words most (node_of rank) (node_of (suc rank)) (line.next rank (omega arith))
      (link_not_zero h.words.shape (node_of (suc rank)) (node_exists (suc rank) (omega arith)))
      ∙ ap (λ vs. h.words.value_of_node (node_of (suc rank)) ∷ vs) (walk-line left (suc rank) most (omega arith) (omega arith))
