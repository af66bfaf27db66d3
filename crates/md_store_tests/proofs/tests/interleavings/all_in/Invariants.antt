use Rattle.std.proofs.Common.{◌≡◌}
use Rattle.md_store_interleavings.specs.Acting.{IsActing}
use Rattle.md_nbtc.specs.State.{state}
use Rattle.md_store_tests.proofs.tests.interleavings.all_in.Given as goal

abbrev pub invariant-loop-op : goal.invariant-loop-op
invariant-loop-op g l = record {
  pass : l.txn.pass.ghost_name ≡ l.fn.txn.pass.ghost_name;
  acting : IsActing l.store (state l.txn) l.why;
}
