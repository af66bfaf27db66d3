use Rattle.md_store_law.proofs.SideWalks.{AreStepping}
use Rattle.md_store_law.proofs.side_walks.step_group.Given as goal

abbrev pub invariant-loop-walk : goal.invariant-loop-walk
invariant-loop-walk g l = AreStepping l.shape (g.W.FieldWords.words l.words) l.fn.walks l.walk-index l.going l.walks
