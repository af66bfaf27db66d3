use Rattle.std.proofs.Common.{◌≡◌}
use Rattle.md_nbtc.specs.State.{state}
use Rattle.md_rule_tests.specs.Tested.{IsOpen}
use Rattle.md_rule_tests.proofs.tests.transactions.assert_calls.Given as goal

abbrev pub invariant-loop-i : goal.invariant-loop-i
invariant-loop-i g l = record { pass : l.txn.pass.ghost_name ≡ l.fn.txn.pass.ghost_name; open_still : IsOpen l.field (state l.txn) }
