use Rattle.std.proofs.lemmas.Result.{err_from_is_err_and}
use Rattle.md_history.specs.Script.{done}
use Rattle.md_history.specs.ScriptLaws.{at-begin, at-more, at-part, at-broke_part, at-done}
use Rattle.md_history.proofs.Branching.{at-some}
use Rattle.md_book.specs.Stands.{left_in}
use Rattle.md_match.specs.declared.commands.MatchReply.TheVariants.{Cancelled}
use Rattle.md_match.specs.Scripts.{cancel}
use Rattle.md_match.proofs.cancel.cancel.Goals as goal

pub returns-in_err-lower_level-clause-plays : goal.returns-in_err-lower_level-clause-plays
returns-in_err-lower_level-clause-plays g c =
    let p = err_from_is_err_and c.from_residual-in_err-lower_level.result c.from_residual-in_err-lower_level.ensures.1 in
    let at0 = at-begin (cancel c.args.name) (g.T.TxCalls.acts c.args.t.now) in
    let at1 = at-some _ _ _ _ (at-more at0 c.in_ok-order.ensures.ok) c.in-Some.is in
    rw (p.1, p.2) (at-broke_part (λ _. done (Cancelled (left_in c.in-Some.order))) at1 (rw (c.level_in.ensures, c.left_in-left.ensures) at c.in_err-lower_level.ensures.plays))

pub returns-clause-plays : goal.returns-clause-plays
returns-clause-plays g c =
    let at0 = at-begin (cancel c.args.name) (g.T.TxCalls.acts c.args.t.now) in
    let at1 = at-some _ _ _ _ (at-more at0 c.in_ok-order.ensures.ok) c.in-Some.is in
    let lowered = rw (c.level_in.ensures, c.left_in-left.ensures) at c.in_ok-lower_level.ensures.plays in
    rw c.left_in-left.ensures (lowered.0, at-done (at-part (λ _. done (Cancelled (left_in c.in-Some.order))) at1 lowered.1))
