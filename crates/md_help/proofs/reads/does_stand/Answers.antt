use Rattle.std.proofs.Common.{rules}
use Rattle.md_help.proofs.reads.does_stand.Goals as goal

pub returns-then-spot-desc : goal.returns-then-spot-desc
returns-then-spot-desc c = search rules depth 1

pub returns-else-spot-desc : goal.returns-else-spot-desc
returns-else-spot-desc c = search rules depth 1
