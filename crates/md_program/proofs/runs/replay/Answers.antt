use Rattle.std.proofs.Common.{sym, subst}
use Rattle.std.proofs.lemmas.Result.{err_from_is_err_and}
use Rattle.md_many.proofs.Telling.{told-of}
use Rattle.md_program_edge.specs.Streams.{IsRead}
use Rattle.md_program.proofs.Unreadable.{order-stops}
use Rattle.md_program.proofs.runs.replay.Goals as goal

pub returns-in_err-scripts-clause-stops : goal.returns-in_err-scripts-clause-stops
returns-in_err-scripts-clause-stops g c =
    let p = err_from_is_err_and c.from_residual-in_err-scripts.result c.from_residual-in_err-scripts.ensures.1 in
    let read = subst (IsRead _ _ _ _ _) (sym c.as_slice-records.ensures.value) c.in_ok-bytes.ensures.read in
    rw p.1 (order-stops _ _ _ _ _ _ _ _ c.in_err-scripts.field-0.0 _ c.in_err-scripts.was p.2 read c.join-scripts.ensures.first.1.0 c.join-scripts.ensures.first.1.1)

pub returns-clause-gate : goal.returns-clause-gate
returns-clause-gate g c =
    told-of _ (g.G.Gate.after_called c.args.gate.now) _ c.in_ok-tell_and_close.ensures.1.each_once c.in_ok-played.ensures.gate
