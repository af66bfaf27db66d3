use Rattle.std.proofs.Common.{arith}
use Rattle.std.proofs.lemmas.Grind.{common_steps}
use Rattle.md_many_attempts.proofs.line_lists.counted.Goals as goal

pub lists-preserved : goal.lists-preserved
lists-preserved g c = grind (arith, common_steps)
