use Rattle.std.proofs.Common.{rules}
use Rattle.md_report_replies.proofs.packed.parts_to_keep.Goals as goal

pub returns-clause-least : goal.returns-clause-least
returns-clause-least c = search rules depth 1
