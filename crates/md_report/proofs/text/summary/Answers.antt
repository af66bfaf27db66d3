use Rattle.std.proofs.Common.{rules}
use Rattle.md_report.proofs.text.summary.Goals as goal

pub returns-clause-text : goal.returns-clause-text
returns-clause-text c = search rules depth 1
