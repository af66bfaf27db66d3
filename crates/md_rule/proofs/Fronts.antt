-- What a pass has seen, knows and has answered goes on over each event of its own.
use Rattle.std.proofs.Common.{ℕ, Contains, subst}
use Rattle.md_words.specs.declared.shape.Shape.{Shape}
use Rattle.md_history.specs.Front.{Begins}
use Rattle.md_machine.specs.Legal.{front_of}
use Rattle.md_machine.specs.declared.pass.PassView.{PassView}
use Rattle.md_machine.specs.Meaning.{Meaning}
use Rattle.md_machine.proofs.clauses.passes.FrontsGoOn.{front_begins}
use Rattle.md_rule.specs.Steps.{EventOf, Stepped}
use Rattle.md_rule.specs.Views.{Origin}
use Rattle.md_rule.proofs.Moves.{goes_on}

module _ (M : Meaning) (o : Origin) where
  -- over an event that leaves a pass the lanes that it had, its front goes on
  pub told_front : (event : EventOf) (before after : PassView) → Stepped M o event before after
      → ((lane : ℕ) → Contains before.lanes lane → Contains after.lanes lane)
      → Begins (front_of o.shape before) (front_of o.shape after)
  told_front event before after s keeps =
      subst (λ (shape : Shape). Begins (front_of shape before) (front_of shape after)) s.admitted.shape
      (front_begins s.machine s.next (goes_on M o s.machine s.next (event s.pass) s.admitted s.does) s.pass s.pass before after s.acts.at s.knows s.acts.live keeps)
