use Rattle.std.proofs.Common.{◌≡◌, ◌-◌, None}
use Rattle.md_history.specs.ScriptLaws.{At}
use Rattle.example_jobs.specs.declared.places.TheConstants.{PRIORITIES}
use Rattle.example_jobs.specs.Moves.{start_first}
use Rattle.example_jobs.proofs.moves.start_first.Given as goal

abbrev pub invariant-loop-queue : goal.invariant-loop-queue
invariant-loop-queue g l = record {
  at : At (start_first l.fn.worker PRIORITIES 0) (g.T.TxCalls.acts l.fn.t) (g.T.TxCalls.acts l.t)
      (start_first l.fn.worker (PRIORITIES - l.queue) l.queue);
  going : g.T.TxCalls.stop l.t ≡ None;
  kept : g.T.TxCalls.kept l.t ≡ g.T.TxCalls.kept l.fn.t;
}
