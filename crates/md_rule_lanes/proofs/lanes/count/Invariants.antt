use Rattle.std.proofs.Common.{◌≡◌, ◌+◌, length}
use Rattle.md_rule_lanes.specs.LaneSet.{lanes_in}
use Rattle.md_rule_lanes.proofs.lanes.count.Given as goal

abbrev pub invariant-loop-rest : goal.invariant-loop-rest
invariant-loop-rest l = l.count + length (lanes_in l.rest) ≡ length (lanes_in l.bits)

abbrev pub decreases-loop-rest : goal.decreases-loop-rest
decreases-loop-rest l = length (lanes_in l.rest)
