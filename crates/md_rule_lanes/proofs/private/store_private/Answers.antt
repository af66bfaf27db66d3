use Rattle.std.proofs.Common.{rules}
use Rattle.md_rule_lanes.proofs.private.store_private.Goals as goal

pub returns : goal.returns
returns c = assumption
