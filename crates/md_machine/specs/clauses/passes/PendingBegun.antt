-- What is pending.
use Rattle.std.specs.Prelude.{◌≡◌, ℕ, true, List}
use mathlib.Core.Option.{some}
use lib.ListN.{get_elem?}
use Rattle.md_machine.specs.declared.attempt.AttemptId.{AttemptId}
use Rattle.md_machine.specs.declared.pass.PassView.{PassView}
use Rattle.md_machine.specs.Machine.{was_begun}

-- each pending attempt was begun
abbrev pub PendingAreBegun : List AttemptId → List PassView → Type 0
PendingAreBegun begun passes = (pass : ℕ) (p : PassView) → get_elem? passes pass ≡ some p → (a : AttemptId)
    → was_begun p.pending a ≡ true → was_begun begun a ≡ true
