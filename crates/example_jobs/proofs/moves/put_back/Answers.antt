use Rattle.std.proofs.lemmas.Result.{err_from_is_err_and}
use Rattle.md_history.specs.ScriptLaws.{at-begin, at-more, at-broke, at-done}
use Rattle.md_history.proofs.Branching.{at-some, at-none}
use Rattle.example_jobs.specs.Moves.{put_back}
use Rattle.example_jobs.proofs.moves.put_back.Goals as goal

pub returns-in_err-job-clause-plays : goal.returns-in_err-job-clause-plays
returns-in_err-job-clause-plays g c =
    let p = err_from_is_err_and c.from_residual.result c.from_residual.ensures.1 in
    let at0 = at-begin (put_back c.args.worker) (g.T.TxCalls.acts c.args.t.now) in
    rw (p.1, p.2) (at-broke at0 c.in_err-job.ensures.err c.requires.going)

pub returns-in_err-enqueue-clause-plays : goal.returns-in_err-enqueue-clause-plays
returns-in_err-enqueue-clause-plays g c =
    let p = err_from_is_err_and c.from_residual-in_err-enqueue.result c.from_residual-in_err-enqueue.ensures.1 in
    let at0 = at-begin (put_back c.args.worker) (g.T.TxCalls.acts c.args.t.now) in
    let at1 = at-some _ _ _ c.in-Some.job (at-more at0 c.in_ok-job.ensures.ok) c.in-Some.is in
    rw (p.1, p.2) (at-broke at1 c.in_err-enqueue.ensures.err c.in_ok-job.ensures.ok.goes_on)

pub returns-in_default-clause-plays : goal.returns-in_default-clause-plays
returns-in_default-clause-plays g c =
    let at0 = at-begin (put_back c.args.worker) (g.T.TxCalls.acts c.args.t.now) in
    (c.in_ok-job.ensures.ok.goes_on, at-done (at-none _ _ _ (at-more at0 c.in_ok-job.ensures.ok) c.in_default.is))

pub returns-clause-plays : goal.returns-clause-plays
returns-clause-plays g c =
    let at0 = at-begin (put_back c.args.worker) (g.T.TxCalls.acts c.args.t.now) in
    let at1 = at-some _ _ _ c.in-Some.job (at-more at0 c.in_ok-job.ensures.ok) c.in-Some.is in
    (c.in_ok-enqueue.ensures.ok.goes_on, at-done (at-more at1 c.in_ok-enqueue.ensures.ok))
