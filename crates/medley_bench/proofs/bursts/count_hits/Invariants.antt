use Rattle.std.proofs.Common.{◌≡◌, ◌≤◌, None, drop}
use Rattle.md_history.specs.ScriptLaws.{At}
use Rattle.md_history_loops.specs.Loops.{try_fold}
use Rattle.medley_bench.specs.Bursts.{count_hit}
use Rattle.medley_bench.proofs.bursts.count_hits.Given as goal

abbrev pub invariant-loop-i : goal.invariant-loop-i
invariant-loop-i g l = record {
  at : At (try_fold count_hit l.fn.calls 0) (g.T.TxCalls.acts l.fn.t) (g.T.TxCalls.acts l.t)
      (try_fold count_hit (drop l.i l.fn.calls) l.hits);
  few : l.hits ≤ l.i;
  going : g.T.TxCalls.stop l.t ≡ None;
  kept : g.T.TxCalls.kept l.t ≡ g.T.TxCalls.kept l.fn.t;
}
