use Rattle.md_store.specs.Store.{IsPassOf}
use Rattle.medley_bench.proofs.running.run_bursts.Given as goal

abbrev pub invariant-loop-number : goal.invariant-loop-number
invariant-loop-number l = IsPassOf l.store l.pass
