use Rattle.std.proofs.Common.{rules}
use Rattle.md_book.proofs.commands.Side.resting_sums.Goals as goal

pub returns-in-Buy : goal.returns-in-Buy
returns-in-Buy c = search rules depth 1
