use Rattle.std.proofs.Common.{◌∙◌, refl, arith}
use Rattle.std.proofs.lemmas.Result.{err_from_is_err_and}
use Rattle.md_history.specs.ScriptLaws.{at-begin, at-more, at-broke, at-done}
use Rattle.md_history.proofs.Branching.{at-some, at-none}
use Rattle.example_jobs.specs.declared.places.TheConstants.{PRIORITIES}
use Rattle.example_jobs.specs.Moves.{start_first}
use Rattle.example_jobs.proofs.Walking.{more-left, none-left}
use Rattle.example_jobs.proofs.moves.start_first.Goals as goal

pub loop-queue-init : goal.loop-queue-init
loop-queue-init g c = record {
  at = at-begin (start_first c.args.worker PRIORITIES 0) (g.T.TxCalls.acts c.args.t.now);
  going = c.requires.going;
  kept = refl;
}

pub returns-in_err-job-clause-plays : goal.returns-in_err-job-clause-plays
returns-in_err-job-clause-plays g c =
    let p = err_from_is_err_and c.from_residual.result c.from_residual.ensures.1 in
    let at0 = more-left c.args.worker c.loop-queue.queue c.loop-queue.invariant.at (omega (arith, c.loop-queue-test.true)) in
    rw (p.1, p.2) (at-broke at0 c.in_err-job.ensures.err c.loop-queue.invariant.going)

pub returns-in_err-insert-clause-plays : goal.returns-in_err-insert-clause-plays
returns-in_err-insert-clause-plays g c =
    let p = err_from_is_err_and c.from_residual-in_err-insert.result c.from_residual-in_err-insert.ensures.1 in
    let at0 = more-left c.args.worker c.loop-queue.queue c.loop-queue.invariant.at (omega (arith, c.loop-queue-test.true)) in
    let at1 = at-some _ _ _ c.in-Some.job (at-more at0 c.in_ok-job.ensures.ok) c.in-Some.is in
    rw (p.1, p.2) (at-broke at1 c.in_err-insert.ensures.err c.in_ok-job.ensures.ok.goes_on)

pub returns-in-Some-clause-plays : goal.returns-in-Some-clause-plays
returns-in-Some-clause-plays g c =
    let at0 = more-left c.args.worker c.loop-queue.queue c.loop-queue.invariant.at (omega (arith, c.loop-queue-test.true)) in
    let at1 = at-some _ _ _ c.in-Some.job (at-more at0 c.in_ok-job.ensures.ok) c.in-Some.is in
    (c.in_ok-insert.ensures.ok.goes_on, at-done (at-more at1 c.in_ok-insert.ensures.ok))

pub loop-queue-preserved : goal.loop-queue-preserved
loop-queue-preserved g c =
    let at0 = more-left c.args.worker c.loop-queue.queue c.loop-queue.invariant.at (omega (arith, c.loop-queue-test.true)) in
    record {
      at = at-none _ _ _ (at-more at0 c.in_ok-job.ensures.ok) c.in_default.is;
      going = c.in_ok-job.ensures.ok.goes_on;
      kept = c.dequeue.ensures.kept ∙ c.loop-queue.invariant.kept;
    }

pub returns-clause-plays : goal.returns-clause-plays
returns-clause-plays g c = (
  c.loop-queue.invariant.going,
  at-done (none-left c.args.worker c.loop-queue.queue c.loop-queue.invariant.at (omega (arith, c.loop-queue-test.false))),
)
