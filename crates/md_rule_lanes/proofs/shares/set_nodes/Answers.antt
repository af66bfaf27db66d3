use Rattle.std.proofs.Common.{rules}
use Rattle.md_rule_lanes.proofs.shares.set_nodes.Goals as goal

pub returns-clause-shares : goal.returns-clause-shares
returns-clause-shares c = assumption
