use Rattle.std.proofs.Common.{◌≡◌, ◌<◌, ◌^◌, length, slice_index}
use Rattle.md_rule_lanes.specs.LaneSet.{lanes_in}
use Rattle.md_rule_lanes.proofs.lanes.lane_at.Given as goal

abbrev pub invariant-loop-left : goal.invariant-loop-left
invariant-loop-left l = (l.left < length (lanes_in l.rest)) × (slice_index (lanes_in l.rest) l.left ≡ slice_index (lanes_in l.bits) l.place) × (l.rest < 2 ^ 64)

abbrev pub decreases-loop-left : goal.decreases-loop-left
decreases-loop-left l = l.left
