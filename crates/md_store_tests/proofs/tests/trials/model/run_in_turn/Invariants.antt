use Rattle.md_store.specs.Store.{IsPassOf}
use Rattle.md_store_tests.proofs.tests.trials.model.run_in_turn.Given as goal

abbrev pub invariant-loop-turn : goal.invariant-loop-turn
invariant-loop-turn l = IsPassOf l.store l.one × IsPassOf l.store l.other
