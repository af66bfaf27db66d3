use Rattle.std.proofs.Common.{◌≡◌}
use Rattle.md_store_interleavings.specs.Acting.{IsActing}
use Rattle.md_nbtc.specs.State.{state}
use Rattle.md_store_tests.proofs.tests.interleavings.at_random.pairs.turns.Given as goal

abbrev pub invariant-loop-made : goal.invariant-loop-made
invariant-loop-made g l = record {
  first : l.first.pass.ghost_name ≡ l.fn.first.pass.ghost_name;
  second : l.second.pass.ghost_name ≡ l.fn.second.pass.ghost_name;
  one : IsActing l.store (state l.first) l.one.stop;
  two : IsActing l.store (state l.second) l.two.stop;
}
