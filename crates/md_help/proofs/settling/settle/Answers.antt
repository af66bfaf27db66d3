use Rattle.std.proofs.Common.{sym, ap, ◌∙◌}
use Rattle.md_words.specs.declared.status.StatusWord.{StatusWord}
use Rattle.md_help.proofs.Ends.{settled_more}
use Rattle.md_help.proofs.settling.settle.Goals as goal

pub abort_unready-requires-clause-unready : goal.abort_unready-requires-clause-unready
abort_unready-requires-clause-unready g c = sym (ap (λ (w : StatusWord). w.status) c.of.ensures.parts) ∙ c.in-InPrep.is

pub settle_ready-requires-clause-ready : goal.settle_ready-requires-clause-ready
settle_ready-requires-clause-ready g c = λ e. c.in_default.not-InPrep (ap (λ (w : StatusWord). w.status) c.of.ensures.parts ∙ e)

pub returns-in_default-clause-settled : goal.returns-in_default-clause-settled
returns-in_default-clause-settled g c =
    settled_more c.args.field.now.origin.shape c.args.desc c.args.status c.settle_ready.result c.args.pass.now.view c.settle_ready.new.pass.view c.settle_ready.ensures.settled
