-- What steps were made for.
use Rattle.std.specs.Prelude.{◌≡◌, ℕ, true, List, Some}
use mathlib.Core.Option.{some}
use lib.ListN.{get_elem?}
use Rattle.md_machine.specs.declared.attempt.AttemptId.{AttemptId}
use Rattle.md_machine.specs.declared.pass.PassView.{PassView}
use Rattle.md_machine.specs.Machine.{was_begun}
use Rattle.md_machine.specs.Trail.{EveryStepOf}

-- whatever a step was made for was begun
abbrev pub StepsAreBegun : List AttemptId → List PassView → Type 0
StepsAreBegun begun passes = (pass : ℕ) (p : PassView) → get_elem? passes pass ≡ some p
    → EveryStepOf p (λ s. (a : AttemptId) → s.attempt ≡ Some a → was_begun begun a ≡ true)
