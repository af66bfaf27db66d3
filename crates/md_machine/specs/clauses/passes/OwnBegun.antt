-- What became of the attempts of a pass's lanes that were begun.
use Rattle.std.specs.Prelude.{◌≡◌, ℕ, true, List, Some, ◌⊎◌}
use mathlib.Core.Option.{some}
use lib.ListN.{get_elem?}
use Rattle.md_words.specs.declared.shape.Shape.{Shape}
use Rattle.md_machine.specs.declared.attempt.AttemptId.{AttemptId}
use Rattle.md_machine.specs.declared.pass.PassView.{PassView}
use Rattle.md_machine.specs.Machine.{was_begun}
use Rattle.md_machine.specs.Own.{HasDesc}
use Rattle.md_machine.specs.Trail.{SomeStepOf}

-- a begun attempt of a pass's lanes is pending, or the pass made a step while it had it in hand
abbrev pub OwnBegunShown : Shape → List AttemptId → List PassView → Type 0
OwnBegunShown shape begun passes = (pass : ℕ) (p : PassView) → get_elem? passes pass ≡ some p → (a : AttemptId)
    → was_begun begun a ≡ true → HasDesc shape p a.desc
    → (was_begun p.pending a ≡ true) ⊎ SomeStepOf p (λ s. s.attempt ≡ Some a)
