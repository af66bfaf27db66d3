use Rattle.std.proofs.Common.{arith}
use Rattle.std.proofs.lemmas.Grind.{common_steps}
use Rattle.md_book.proofs.fronts.look_front.Goals as goal

pub returns-in_default-2-clause-plays : goal.returns-in_default-2-clause-plays
returns-in_default-2-clause-plays g c = grind (arith, common_steps)
