use Rattle.std.proofs.Common.{arith}
use Rattle.std.proofs.lemmas.Grind.{common_steps}
use Rattle.md_store_law.proofs.side_walks.step_group.Goals as goal

pub loop-walk-preserved : goal.loop-walk-preserved
loop-walk-preserved g c = grind (arith, common_steps)
