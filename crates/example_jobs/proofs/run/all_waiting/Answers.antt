use Rattle.std.proofs.Common.{◌+◌, ◌%◌, sym, subst, arith}
use Rattle.example_jobs.specs.declared.places.TheConstants.{PRIORITIES}
use Rattle.example_jobs.specs.Jobs.{Holds}
use Rattle.example_jobs.proofs.Holding.{holds-none, holds-more}
use Rattle.example_jobs.proofs.run.all_waiting.Goals as goal

pub loop-job-init : goal.loop-job-init
loop-job-init c = subst (Holds 0) (sym c.in_ok-contents.ensures) holds-none

pub loop-job-preserved : goal.loop-job-preserved
loop-job-preserved c =
    let job = c.loop-job.job in
    subst (Holds (job + 1)) (sym c.in_ok-push.ensures.ok)
    (holds-more job (job % PRIORITIES) _ c.loop-job.invariant (omega arith))

pub returns : goal.returns
returns c = subst (λ n. Holds n c.loop-job.contents) (omega arith) c.loop-job.invariant
