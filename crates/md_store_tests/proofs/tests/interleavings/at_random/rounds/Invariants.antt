use Rattle.md_store.specs.Store.{IsPassOf}
use Rattle.md_store_tests.proofs.tests.interleavings.at_random.rounds.Given as goal

abbrev pub invariant-loop-made : goal.invariant-loop-made
invariant-loop-made g l = record {
  a : IsPassOf l.store l.a;
  b : IsPassOf l.store l.b;
  c : IsPassOf l.store l.c;
  d : IsPassOf l.store l.d;
}
