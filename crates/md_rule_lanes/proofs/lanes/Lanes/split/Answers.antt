use Rattle.std.proofs.lemmas.Nat.{and_le_l, xor_lt}
use Rattle.std.proofs.Common.{◌<◌, ◌-◌, ◌/◌, ◌*◌, ◌^◌, ◌%◌, bit_and, ap, sym, ◌∙◌, length, take, drop, arith}
use Rattle.md_machine.specs.events.SplitJoin.{given_lanes, kept_lanes}
use Rattle.md_rule_lanes.proofs.LaneSets.{lanes_from, lanes_below}
use Rattle.md_rule_lanes.specs.LaneSet.{lanes_in}
use Rattle.md_rule_lanes.proofs.lanes.Lanes.split.Goals as goal

pub returns-clause-kept : goal.returns-clause-kept
returns-clause-kept c =
    let bits = c.self.inside.bits in
    let lanes = c.count-lanes.result in
    let two = c.requires in
    let view = ap length c.self.view_is in
    let count = c.count-lanes.ensures in
    let inside : lanes - lanes / 2 < length (lanes_in bits) = omega (arith, two, view, count) in
    lanes_below bits (lanes - lanes / 2) c.lane_at.result inside (sym c.lane_at.ensures.lane) c.lane_at.ensures.below
    ∙ ap (λ n. take (n - n / 2) (lanes_in bits)) count ∙ ap kept_lanes c.self.view_is

pub returns-clause-given : goal.returns-clause-given
returns-clause-given c =
    let bits = c.self.inside.bits in
    let lanes = c.count-lanes.result in
    let two = c.requires in
    let view = ap length c.self.view_is in
    let count = c.count-lanes.ensures in
    let inside : lanes - lanes / 2 < length (lanes_in bits) = omega (arith, two, view, count) in
    lanes_from bits (lanes - lanes / 2) c.lane_at.result inside (sym c.lane_at.ensures.lane) c.lane_at.ensures.below
    ∙ ap (λ n. drop (n - n / 2) (lanes_in bits)) count ∙ ap given_lanes c.self.view_is

pub invariant_of-self : goal.invariant_of-self
invariant_of-self c =
    let bits = c.self.inside.bits in
    let mask = 18446744073709551615 * 2 ^ c.lane_at.result % 18446744073709551616 in
    xor_lt 64 bits (bit_and bits mask) c.self.invariant (let fits = c.self.invariant in let less = and_le_l bits mask in omega (arith, fits, less))
