use Rattle.std.proofs.Common.{arith}
use Rattle.md_orders.proofs.maker.turn.Goals as goal

pub returns : goal.returns
returns c = omega arith
