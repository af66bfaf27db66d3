use Rattle.std.proofs.Common.{ap}
use Rattle.md_rule.specs.Views.{PassState}
use Rattle.md_nbtc.specs.State.{state}
use Rattle.md_rule_tests.proofs.Tested.{of_field}
use Rattle.md_rule_tests.proofs.tests.transactions.leave.Goals as goal

pub returns : goal.returns
returns c = of_field c.args.field.now (state c.args.txn) _ c.requires (ap (λ (p : PassState). p.table) c.leave.ensures) (ap (λ (p : PassState). p.shape) c.leave.ensures)
