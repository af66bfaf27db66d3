use Rattle.md_arena.proofs.LowestLanes.{NoneBelow}
use Rattle.md_arena.specs.Left.{HasNodeLeft}
use Rattle.md_arena.proofs.lowest.lane_with_node.Given as goal

abbrev pub invariant-loop-place : goal.invariant-loop-place
invariant-loop-place g l = NoneBelow l.pass (HasNodeLeft l.pass) l.place
