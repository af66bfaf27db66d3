use Rattle.std.proofs.Common.{arith}
use Rattle.md_many_attempts.proofs.steps.next_line.Goals as goal

pub returns-clause-line : goal.returns-clause-line
returns-clause-line g = omega arith

pub returns-clause-left : goal.returns-clause-left
returns-clause-left g = omega arith
