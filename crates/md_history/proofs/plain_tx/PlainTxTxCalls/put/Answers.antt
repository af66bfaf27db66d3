use Rattle.std.proofs.Common.{ap, sym, ◌∙◌, refl, length}
use Rattle.md_history.specs.declared.acts.Reply.TheVariants.{Value}
use Rattle.std.proofs.lemmas.Result.{err_from_is_err_and}
use Rattle.md_history.specs.Plain.{Running}
use Rattle.md_history.proofs.Runs.{running-more}
use Rattle.md_history.proofs.PlainCalls.{refused-again, refused-now, answered, running-refused, running-unchanged}
use Rattle.md_history.proofs.plain_tx.PlainTxTxCalls.put.Goals as goal

pub invariant_of-self-2 : goal.invariant_of-self-2
invariant_of-self-2 c = running-more _ _ _ _ _ _ _ _ _ c.self.invariant (sym c.is_some.ensures ∙ c.if-is_some.false) (ap Value c.in-Ok.ensures.before) c.in-Ok.ensures.ok c.in_ok-note.ensures.ok

pub returns-then-is_some-clause-err : goal.returns-then-is_some-clause-err
returns-then-is_some-clause-err c = refused-again _ _ _ _ c.args.self.now c.self.view_is (sym c.is_some.ensures ∙ c.if-is_some.true)

pub put-requires : goal.put-requires
put-requires c = rw (c.self.invariant.maps ∙ ap (λ (t : Running). length t.start.maps) c.self.view_is) c.requires

pub invariant_of-self : goal.invariant_of-self
invariant_of-self c = running-unchanged _ _ _ _ _ _ _ _ c.self.invariant c.in_default.ensures.err refl refl

pub returns-in_default-clause-err : goal.returns-in_default-clause-err
returns-in_default-clause-err c = refused-now _ _ _ _ _ _ _ c.args.self.now c.self.view_is (sym c.is_some.ensures ∙ c.if-is_some.false) refl refl refl

pub returns-in_default-clause-kept : goal.returns-in_default-clause-kept
returns-in_default-clause-kept c = ap (λ (t : Running). t.start) c.self.view_is

pub invariant_of-self-in_err-note : goal.invariant_of-self-in_err-note
invariant_of-self-in_err-note c = running-refused _ _ _ _ _ _ _ _ c.self.invariant c.in-Ok.ensures.ok c.in_err-note.ensures.same c.in_err-note.ensures.refused

pub returns-in_err-note-clause-ok : goal.returns-in_err-note-clause-ok
returns-in_err-note-clause-ok c =
    let p = err_from_is_err_and c.from_residual.result c.from_residual.ensures.1 in
    rw p.1 tt

pub returns-in_err-note-clause-err : goal.returns-in_err-note-clause-err
returns-in_err-note-clause-err c =
    let p = err_from_is_err_and c.from_residual.result c.from_residual.ensures.1 in
    rw p.1 (refused-now _ p.0 _ _ _ _ _ c.args.self.now c.self.view_is (sym c.is_some.ensures ∙ c.if-is_some.false) (p.2 ∙ c.in_err-note.ensures.err) c.in_err-note.ensures.same c.in_err-note.ensures.refused)

pub returns-in_err-note-clause-kept : goal.returns-in_err-note-clause-kept
returns-in_err-note-clause-kept c = ap (λ (t : Running). t.start) c.self.view_is

pub returns-clause-ok : goal.returns-clause-ok
returns-clause-ok c = answered _ _ _ _ _ _ _ c.args.self.now c.self.view_is (sym c.is_some.ensures ∙ c.if-is_some.false) c.in_ok-note.ensures.ok c.in_ok-note.ensures.goes_on

pub returns-clause-kept : goal.returns-clause-kept
returns-clause-kept c = ap (λ (t : Running). t.start) c.self.view_is
