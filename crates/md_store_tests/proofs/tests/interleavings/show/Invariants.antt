use Rattle.md_store.specs.Store.{IsPassOf}
use Rattle.md_store_tests.proofs.tests.interleavings.show.Given as goal

abbrev pub invariant-loop-at : goal.invariant-loop-at
invariant-loop-at g l = IsPassOf l.store l.pass
