use Rattle.example_jobs.specs.Jobs.{Holds}
use Rattle.example_jobs.proofs.run.all_waiting.Given as goal

abbrev pub invariant-loop-job : goal.invariant-loop-job
invariant-loop-job l = Holds l.job l.contents
