use Rattle.std.proofs.Common.{arith}
use Rattle.std.proofs.lemmas.Grind.{common_steps}
use Rattle.md_orders.proofs.cuts.line_end.Goals as goal

pub returns-then-bytes-at-eq10-clause-within : goal.returns-then-bytes-at-eq10-clause-within
returns-then-bytes-at-eq10-clause-within c = let from = c.loop-at.auto.at in (omega arith, omega arith)

pub returns-then-bytes-at-eq10-clause-ends : goal.returns-then-bytes-at-eq10-clause-ends
returns-then-bytes-at-eq10-clause-ends c = grind (arith, common_steps)
