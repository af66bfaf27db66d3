use Rattle.std.proofs.Common.{rules}
use Rattle.md_rule_lanes.proofs.private.exchange_private.Goals as goal

pub returns-then-found-from-clause-words : goal.returns-then-found-from-clause-words
returns-then-found-from-clause-words c = search rules depth 1
