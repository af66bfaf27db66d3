use Rattle.std.proofs.Common.{rules}
use Rattle.md_rule_lanes.proofs.statuses.started.Goals as goal

pub returns : goal.returns
returns c = search rules depth 1
