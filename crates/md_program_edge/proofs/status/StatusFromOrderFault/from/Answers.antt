use Rattle.std.proofs.Common.{refl}
use Rattle.md_program_edge.proofs.status.StatusFromOrderFault.from.Goals as goal

pub returns-in-TooMany : goal.returns-in-TooMany
returns-in-TooMany c = rw c.in-TooMany.is refl
