use Rattle.md_arena.proofs.LowestLanes.{NoneBelow}
use Rattle.md_arena.specs.Left.{HasTryLeft}
use Rattle.md_arena.proofs.lowest.lane_with_try.Given as goal

abbrev pub invariant-loop-place : goal.invariant-loop-place
invariant-loop-place g l = NoneBelow l.pass (HasTryLeft l.pass) l.place
