use Rattle.md_nbtc.specs.State.{state}
use Rattle.md_rule_tests.proofs.Tested.{over_fresh}
use Rattle.md_rule_tests.proofs.tests.transactions.fresh.Goals as goal

pub returns-clause-open : goal.returns-clause-open
returns-clause-open c = over_fresh c.args.field.now (state c.args.txn.now) (state c.fresh.new.self) c.fresh.ensures.on 3 4 0 c.fresh.result c.fresh.ensures.fresh c.requires
