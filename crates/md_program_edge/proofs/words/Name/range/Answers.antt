use Rattle.std.proofs.Common.{refl}
use Rattle.md_program_edge.proofs.words.Name.range.Goals as goal

pub returns-in-Tries-clause-high : goal.returns-in-Tries-clause-high
returns-in-Tries-clause-high c = rw c.in-Tries.is refl
