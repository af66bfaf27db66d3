use Rattle.std.proofs.Common.{ap, sym, ◌∙◌, get_or, slice_index, w64, arith}
use Rattle.std.proofs.lemmas.Nat.Bits.{bit_at-trailing_zeros}
use Rattle.md_rule_lanes.proofs.LaneSets.{lanes_first, lanes_some}
use Rattle.md_rule_lanes.specs.LaneSet.{lanes_in}
use Rattle.md_rule_lanes.proofs.lanes.lane_at.Goals as goal

pub without_lowest-rest-requires : goal.without_lowest-rest-requires
without_lowest-rest-requires c = let inside = c.loop-left.invariant.0 in lanes_some c.loop-left.rest (omega (arith, inside))

pub returns-clause-lane : goal.returns-clause-lane
returns-clause-lane c =
    let rest = c.loop-left.rest in
    let inside = c.loop-left.invariant.0 in
    let none = c.loop-left-test.false in
    let first = lanes_first rest (lanes_some rest (omega (arith, inside))) c.loop-left.invariant.2 in
    sym (ap (λ l. get_or l 0 0) first) ∙ ap (slice_index (lanes_in rest)) (omega (arith, none)) ∙ c.loop-left.invariant.1

pub returns-clause-below : goal.returns-clause-below
returns-clause-below c = let inside = c.loop-left.invariant.0 in
    (bit_at-trailing_zeros w64 c.loop-left.rest (lanes_some c.loop-left.rest (omega (arith, inside))) c.loop-left.invariant.2).0
