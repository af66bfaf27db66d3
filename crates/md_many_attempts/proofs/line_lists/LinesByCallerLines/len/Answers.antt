use Rattle.std.proofs.Common.{length, ap}
use Rattle.md_many_attempts.proofs.line_lists.LinesByCallerLines.len.Goals as goal

pub returns : goal.returns
returns g c = ap length c.list.ensures.list
