use Rattle.std.proofs.Common.{rules}
use Rattle.md_store_law.proofs.walks.pair_of.Goals as goal

pub returns : goal.returns
returns g c = search rules depth 1
