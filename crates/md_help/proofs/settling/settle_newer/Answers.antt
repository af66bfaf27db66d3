use Rattle.std.proofs.Common.{◌≡◌, ℕ, inr, rules}
use Rattle.md_words.specs.declared.shape.Shape.{Shape}
use Rattle.md_words.specs.Status.{serial_of}
use Rattle.md_machine.specs.declared.pass.PassView.{PassView}
use Rattle.md_help.specs.declared.settling.End.{End}
use Rattle.md_help.specs.declared.settling.End.TheVariants.{Committed, Aborted, Gone}
use Rattle.md_help.specs.Settles.{Settled, SettledNewer}
use Rattle.md_help.proofs.settling.settle_newer.Goals as goal

-- an end from the newer status, where it is of the same attempt
same_attempt : (shape : Shape) (desc old new : ℕ) (end : End) (p q : PassView) → serial_of new ≡ serial_of old → Settled shape desc new 1 end p q → SettledNewer shape desc old new end p q
same_attempt shape desc old new Committed p q is s = (is, s)
same_attempt shape desc old new Aborted p q is s = (is, s)
same_attempt shape desc old new Gone p q is s = inr (is, s)

pub returns-clause-settled : goal.returns-clause-settled
returns-clause-settled g c =
    same_attempt c.args.field.now.origin.shape c.args.desc c.args.old c.args.newer c.settle_ready.result c.args.pass.now.view c.settle_ready.new.pass.view (search rules) c.settle_ready.ensures.settled
