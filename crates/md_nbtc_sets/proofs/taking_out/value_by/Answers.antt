use Rattle.std.proofs.Common.{rules}
use Rattle.md_nbtc_sets.proofs.taking_out.value_by.Goals as goal

pub returns-in_default : goal.returns-in_default
returns-in_default c = search rules depth 1
