use Rattle.std.proofs.Common.{rules}
use Rattle.md_rule_lanes.proofs.shares.count_slot.Goals as goal

pub returns-clause-shares : goal.returns-clause-shares
returns-clause-shares c = search rules depth 1
