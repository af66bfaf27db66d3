use Rattle.std.proofs.Common.{rules}
use Rattle.md_rule_lanes.proofs.shares.restart_lane.Goals as goal

pub returns-clause-shares : goal.returns-clause-shares
returns-clause-shares c = assumption
