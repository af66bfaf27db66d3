use Rattle.std.proofs.Common.{refl, sym, ap, ◌∙◌}
use Rattle.md_words.specs.declared.status.StatusWord.{StatusWord}
use Rattle.md_help.specs.declared.settling.End.TheVariants.{Committed, Aborted}
use Rattle.md_help.proofs.Ends.{is_aborted, settled_already}
use Rattle.md_help.proofs.Owns.{end_already}
use Rattle.md_help.proofs.settling.settle_ready.Goals as goal

pub returns-in-Committed-clause-settled : goal.returns-in-Committed-clause-settled
returns-in-Committed-clause-settled g c =
    let is = ap (λ (w : StatusWord). w.status) c.of.ensures.parts in
    settled_already c.args.field.now.origin.shape c.args.desc c.args.status Committed c.args.pass.now.view (refl, sym is ∙ c.in-Committed.is)

pub returns-in_default-clause-settled : goal.returns-in_default-clause-settled
returns-in_default-clause-settled g c =
    let is = ap (λ (w : StatusWord). w.status) c.of.ensures.parts in
    settled_already c.args.field.now.origin.shape c.args.desc c.args.status Aborted c.args.pass.now.view
    (refl, is_aborted _ c.requires.ready (λ e. c.in_default.not-InProg (is ∙ e)) (λ e. c.in_default.not-Committed (is ∙ e)))

pub returns-in_default-clause-own : goal.returns-in_default-clause-own
returns-in_default-clause-own g c own =
    let is = ap (λ (w : StatusWord). w.status) c.of.ensures.parts in
    end_already c.args.field.now.origin.shape c.args.desc c.args.status Aborted c.args.pass.now.view c.requires.attempt.met
    (is_aborted _ c.requires.ready (λ e. c.in_default.not-InProg (is ∙ e)) (λ e. c.in_default.not-Committed (is ∙ e))) own

pub returns-in-Committed-clause-own : goal.returns-in-Committed-clause-own
returns-in-Committed-clause-own g c own =
    let is = ap (λ (w : StatusWord). w.status) c.of.ensures.parts in
    end_already c.args.field.now.origin.shape c.args.desc c.args.status Committed c.args.pass.now.view c.requires.attempt.met
    (sym is ∙ c.in-Committed.is) own

pub returns-in-InProg-clause-settled : goal.returns-in-InProg-clause-settled
returns-in-InProg-clause-settled g c = assumption

pub returns-in-InProg-clause-own : goal.returns-in-InProg-clause-own
returns-in-InProg-clause-own g c = assumption
