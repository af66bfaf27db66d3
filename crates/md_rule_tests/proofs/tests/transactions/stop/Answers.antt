use Rattle.md_nbtc.specs.State.{state}
use Rattle.md_rule_tests.proofs.Tested.{of_field}
use Rattle.md_rule_tests.proofs.tests.transactions.stop.Goals as goal

pub returns : goal.returns
returns c = of_field c.args.field.now (state c.args.txn) _ c.requires c.stop.ensures.down.same.table c.stop.ensures.down.same.shape
