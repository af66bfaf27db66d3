use Rattle.std.proofs.Common.{rules}
use Rattle.md_rule_lanes.proofs.private.own_words.Goals as goal

pub returns-then-shape-eq1 : goal.returns-then-shape-eq1
returns-then-shape-eq1 c = search rules depth 1

pub returns-else-shape-eq1 : goal.returns-else-shape-eq1
returns-else-shape-eq1 c = search rules depth 1
