use Rattle.std.proofs.Common.{rules}
use Rattle.md_report.proofs.sums.quantity_cancelled.Goals as goal

pub returns-in-Some-Cancelled : goal.returns-in-Some-Cancelled
returns-in-Some-Cancelled c = search rules depth 1
