use Rattle.std.proofs.Common.{refl, rules}
use Rattle.md_orders.proofs.generator.made_command.Goals as goal

pub returns-in-2 : goal.returns-in-2
returns-in-2 c = rw (c.in-2.is, c.order_name.ensures) refl

pub returns-in-3 : goal.returns-in-3
returns-in-3 c = search rules depth 1
