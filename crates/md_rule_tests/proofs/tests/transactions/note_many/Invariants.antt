use Rattle.std.proofs.Common.{◌≡◌}
use Rattle.md_nbtc.specs.State.{state}
use Rattle.md_rule_tests.specs.Tested.{IsOpen}
use Rattle.md_rule_tests.proofs.tests.transactions.note_many.Given as goal

abbrev pub invariant-loop-bucket : goal.invariant-loop-bucket
invariant-loop-bucket l = record { pass : l.txn.pass.ghost_name ≡ l.fn.txn.pass.ghost_name; open_still : IsOpen l.field (state l.txn) }
