use Rattle.std.proofs.Common.{refl}
use Rattle.md_rule_lanes.proofs.exchanges.answered.Goals as goal

pub returns-then-found-from : goal.returns-then-found-from
returns-then-found-from c = c.if-found-from.true

pub returns-else-found-from : goal.returns-else-found-from
returns-else-found-from c = (refl, c.if-found-from.false)
