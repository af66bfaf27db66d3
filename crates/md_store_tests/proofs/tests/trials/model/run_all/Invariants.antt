use Rattle.md_store.specs.Store.{IsPassOf}
use Rattle.md_store_tests.proofs.tests.trials.model.run_all.Given as goal

abbrev pub invariant-loop-i : goal.invariant-loop-i
invariant-loop-i l = IsPassOf l.store l.pass
