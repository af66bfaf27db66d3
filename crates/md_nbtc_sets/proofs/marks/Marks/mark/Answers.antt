use Rattle.std.proofs.Common.{rules}
use Rattle.md_nbtc_sets.proofs.marks.Marks.mark.Goals as goal

pub returns-clause-set : goal.returns-clause-set
returns-clause-set c = search rules depth 1

pub returns-clause-marked : goal.returns-clause-marked
returns-clause-marked c = search rules depth 1

pub returns-clause-lower : goal.returns-clause-lower
returns-clause-lower c = search rules depth 1
