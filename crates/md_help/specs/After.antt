-- A pass after more steps.
use Rattle.std.specs.Prelude.{◌≡◌, ℕ, List, [], ◌∷◌, ◌++◌, All}
use Rattle.md_words.specs.declared.shape.Shape.{Shape}
use Rattle.md_history.specs.declared.entries.Fate.{Fate}
use Rattle.md_history.specs.Front.{AllStay}
use Rattle.md_machine.specs.declared.attempt.HistoryEntry.{HistoryEntry}
use Rattle.md_machine.specs.declared.node.PlacedNode.{PlacedNode}
use Rattle.md_machine.specs.declared.pass.PassView.{PassView}
use Rattle.md_machine.specs.declared.step.Step.{Step}
use Rattle.md_machine.specs.Event.{Acts}
use Rattle.md_machine.specs.Machine.{Machine}
use Rattle.md_machine.specs.Meaning.{Meaning}
use Rattle.md_machine.specs.Stepping.{attempt_in_hand, known_after}
use Rattle.md_rule.specs.Admitted.{Admitted}
use Rattle.md_rule.specs.Views.{Origin, PassState}

-- the fates that are known after steps
abbrev pub known_over : Shape → List HistoryEntry → List Step → List Fate → List Fate
known_over shape seen [] known = known
known_over shape seen (s ∷ steps) known = known_over shape seen steps (known_after shape seen s known)

-- a pass made these steps, and nothing else of it changed: they stand last in its trail and were made for what it has in
-- hand, it knows the fates that they told beside those that it knew, and it noted nodes
abbrev pub IsAfter : Shape → List Step → (before after : PassView) → Type 0
IsAfter shape steps before after = (noted : List PlacedNode) × (after ≡ record before {
  trail = before.trail ++ steps;
  known = known_over shape before.seen steps before.known;
  placed = before.placed ++ noted;
}) × AllStay before.known after.known × All (λ s. s.attempt ≡ attempt_in_hand before.hand) steps

-- a pass stands so in some machine of the field
pub record StandsInField (M : Meaning) (o : Origin) (view : PassView) : Type 0 where
  pub machine : Machine
  pub admitted : Admitted M o machine
  pub pass : ℕ
  pub acts : Acts machine pass view

-- a call only made steps: nothing of the pass changed but its view, and it stands so in some machine of the field
pub record OnlySteps (M : Meaning) (o : Origin) (before after : PassState) : Type 0 where
  pub same : after ≡ record before { view = after.view }
  pub stands : StandsInField M o after.view
