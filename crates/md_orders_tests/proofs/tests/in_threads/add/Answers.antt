use Rattle.std.proofs.Common.{◌∙◌, length, ap}
use Rattle.md_orders.proofs.ByCaller.{length-with_list}
use Rattle.md_orders_tests.proofs.tests.in_threads.add.Goals as goal

pub returns : goal.returns
returns c = ap length c.in_ok-add.ensures.ok ∙ length-with_list _ _ _
