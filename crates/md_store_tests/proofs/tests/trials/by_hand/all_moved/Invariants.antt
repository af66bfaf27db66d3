use Rattle.md_store.specs.Store.{IsPassOf}
use Rattle.md_store_tests.proofs.tests.trials.by_hand.all_moved.Given as goal

abbrev pub invariant-loop : goal.invariant-loop
invariant-loop l = IsPassOf l.store l.pass
