use Rattle.std.proofs.lemmas.Result.{err_from_is_err_and}
use Rattle.md_history.specs.ScriptLaws.{at-begin, at-more, at-broke, at-done}
use Rattle.md_history.proofs.Branching.{at-some, at-none}
use Rattle.md_history.proofs.Parts.{tail-plays}
use Rattle.example_jobs.specs.Moves.{take}
use Rattle.example_jobs.proofs.moves.take.Goals as goal

pub returns-in-Some-clause-plays : goal.returns-in-Some-clause-plays
returns-in-Some-clause-plays g c =
    let at0 = at-begin (take c.args.worker) (g.T.TxCalls.acts c.args.t.now) in
    (c.in_ok-get.ensures.ok.goes_on, at-done (at-some _ _ _ c.in-Some.field-0 (at-more at0 c.in_ok-get.ensures.ok) c.in-Some.is))

pub returns-in-None-clause-plays : goal.returns-in-None-clause-plays
returns-in-None-clause-plays g c =
    let at0 = at-begin (take c.args.worker) (g.T.TxCalls.acts c.args.t.now) in
    let at1 = at-none _ _ _ (at-more at0 c.in_ok-get.ensures.ok) c.in-None.is in
    tail-plays g.T.TxCalls.acts g.T.TxCalls.stop c.args.t.now c.get.new.self c.start_first.new.t at1 c.start_first.result c.start_first.ensures.plays

pub returns-in_err-get-clause-plays : goal.returns-in_err-get-clause-plays
returns-in_err-get-clause-plays g c =
    let p = err_from_is_err_and c.from_residual.result c.from_residual.ensures.1 in
    let at0 = at-begin (take c.args.worker) (g.T.TxCalls.acts c.args.t.now) in
    rw (p.1, p.2) (at-broke at0 c.in_err-get.ensures.err c.requires.going)
