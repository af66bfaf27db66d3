-- Placed nodes are nodes of the field.
use Rattle.std.proofs.Common.{◌≡◌, ◌==◌, ◌⊎◌, ℕ, Bool, true, false, List, [], ◌∷◌, inl, inr, ⊎_elim, eqb-true, subst, Option, Some, None}
use Rattle.std.specs.List.{All, Contains}
use Rattle.std.proofs.lemmas.Bool.{cond_both}
use Rattle.std.proofs.lemmas.List.Elements.{All-head, All-tail}
use Rattle.md_words.specs.Layout.{IsNode}
use Rattle.md_machine.specs.declared.attempt.HistoryEntry.{HistoryEntry}
use Rattle.md_machine.specs.declared.node.PlacedNode.{PlacedNode}
use Rattle.md_machine.specs.declared.node.Structure.{Structure}
use Rattle.md_machine.specs.LogicalHeap.{IsPlaced}
use Rattle.md_machine.specs.Machine.{Machine, shape_of}
use Rattle.md_machine.specs.Resolution.{kept_structure, logical_heap, or_else, structure_in}
use Rattle.md_machine.specs.PlacedNodes.{NodesExist}
use Rattle.md_machine.proofs.lists.Rising.{here, there}

no_structure : {s : Structure} → (let o : Option Structure = None in o) ≡ Some s → ⊥
no_structure e = cc

pub else_some : (x y : Option Structure) (s : Structure) → or_else x y ≡ Some s → (x ≡ Some s) ⊎ (y ≡ Some s)
else_some None y s e = inr e
else_some (Some t) y s e = inl e

-- what is true of each node of a list is so of one that it places
module _ (P : ℕ → Type 0) where
  pub structure_at : (ps : List PlacedNode) (node : ℕ) (s : Structure) → All (λ x. P x.node) ps → structure_in ps node ≡ Some s → P node
  structure_at [] node s all e = absurd (no_structure e)
  structure_at (p ∷ ps) node s all e = cond_both (p.node == node) (Some p.structure) (structure_in ps node) (λ o. o ≡ Some s → P node)
      (λ t _. subst P (eqb-true p.node node t) (All-head (λ x. P x.node) p ps all))
      (λ _ later. structure_at ps node s (All-tail (λ x. P x.node) p ps all) later)
      e

  kept_at : (es : List HistoryEntry) (choice : List Bool) (node : ℕ) (s : Structure) → ((e : HistoryEntry) → Contains es e → All (λ x. P x.node) e.placed) → kept_structure es choice node ≡ Some s → P node
  kept_at [] choice node s all is = absurd (no_structure is)
  kept_at (e ∷ es) [] node s all is = absurd (no_structure is)
  kept_at (e ∷ es) (true ∷ choice) node s all is = ⊎_elim
      (λ first. structure_at e.placed node s (all e (here e es)) first)
      (λ later. kept_at es choice node s (λ x c. all x (there e es x c)) later)
      (else_some (structure_in e.placed node) (kept_structure es choice node) s is)
  kept_at (e ∷ es) (false ∷ choice) node s all is = kept_at es choice node s (λ x c. all x (there e es x c)) is

-- so a node that is placed in a resolution is one of the field
pub placed_exists : (m : Machine) (choice : List Bool) → NodesExist m → (node : ℕ) → IsPlaced (logical_heap m choice) node → IsNode (shape_of m) node
placed_exists m choice exist node placed = ⊎_elim
    (λ opened. structure_at (IsNode (shape_of m)) m.opening.placed node placed.0 exist.opened opened)
    (λ kept. kept_at (IsNode (shape_of m)) m.history choice node placed.0 exist.entered kept)
    (else_some (structure_in m.opening.placed node) (kept_structure m.history choice node) placed.0 placed.1)
