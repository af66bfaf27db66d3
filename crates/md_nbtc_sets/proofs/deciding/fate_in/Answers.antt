use Rattle.std.proofs.Common.{rules}
use Rattle.md_nbtc_sets.proofs.deciding.fate_in.Goals as goal

pub returns-in_default : goal.returns-in_default
returns-in_default g c = search rules depth 1
