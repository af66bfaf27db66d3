use Rattle.std.proofs.Common.{arith}
use Rattle.md_program_edge.proofs.Ranges.{making-few}
use Rattle.md_program_edge.proofs.words.making_of.Goals as goal

pub returns-in-Some-Some : goal.returns-in-Some-Some
returns-in-Some-Some c = rw (c.in-Some-Some.is-0, c.in-Some-Some.is-1) (making-few _ _ _ (omega arith))
