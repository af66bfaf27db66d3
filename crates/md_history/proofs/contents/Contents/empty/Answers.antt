use Rattle.std.proofs.Common.{ap, arith, map}
use Rattle.std.proofs.lemmas.Result.{err_from_is_err_and}
use Rattle.std.specs.FinMap as fin
use Rattle.md_history.specs.Contents.{table_of}
use Rattle.md_history.proofs.Tables.{replicated-more, state_of-empty}
use Rattle.md_history.proofs.contents.Contents.empty.Goals as goal

pub loop-made-init : goal.loop-made-init
loop-made-init c = ap (map {0, 0} table_of) c.new-all.ensures.items

pub loop-made-preserved : goal.loop-made-preserved
loop-made-preserved c =
    replicated-more table_of fin.empty _ _ _ _ c.loop-made.invariant c.in_ok-push.ensures.items (ap fin.from_entries c.new.ensures.empty)

pub loop-made-2-init : goal.loop-made-2-init
loop-made-2-init c = ap (map {0, 0} (λ q. q.items)) c.new-lines.ensures.items

pub loop-made-2-preserved : goal.loop-made-2-preserved
loop-made-2-preserved c =
    replicated-more (λ q. q.items) _ _ _ _ _ c.loop-made-2.invariant c.in_ok-push-2.ensures.items c.new-in-loop-made-2.ensures.items

pub returns-in_err-push : goal.returns-in_err-push
returns-in_err-push c =
    let p = err_from_is_err_and c.from_residual.result c.from_residual.ensures.1 in
    rw p.1 tt

pub returns-in_err-push-2 : goal.returns-in_err-push-2
returns-in_err-push-2 c =
    let p = err_from_is_err_and c.from_residual-in_err-push-2.result c.from_residual-in_err-push-2.ensures.1 in
    rw p.1 tt

pub returns : goal.returns
returns c = state_of-empty _ _ _ _ _ _ c.loop-made.invariant (omega arith) c.loop-made-2.invariant (omega arith)
