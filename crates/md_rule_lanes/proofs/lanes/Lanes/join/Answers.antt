use Rattle.std.proofs.Common.{ap, ◌∙◌}
use Rattle.std.proofs.lemmas.Nat.{or_lt}
use Rattle.md_history.specs.Front.{is_lane_of}
use Rattle.md_machine.specs.events.SplitJoin.{joined_lanes}
use Rattle.md_rule_lanes.proofs.LaneSets.{lanes_or, no_lanes, few_lanes}
use Rattle.md_rule_lanes.specs.LaneSet.{lanes_in}
use Rattle.md_rule_lanes.proofs.lanes.Lanes.join.Goals as goal

pub returns : goal.returns
returns c =
    let shape = c.args.shape.now in
    let a = c.self.inside.bits in
    let b = c.other.inside.bits in
    let none_a = no_lanes a shape.lanes c.self.invariant (λ i h. ap (λ l. is_lane_of l i) c.self.view_is ∙ c.requires.mine i h) in
    let none_b = no_lanes b shape.lanes c.other.invariant (λ i h. ap (λ l. is_lane_of l i) c.other.view_is ∙ c.requires.others i h) in
    lanes_or a b shape.lanes (few_lanes shape) none_a none_b ∙ ap (λ l. joined_lanes shape l (lanes_in b)) c.self.view_is ∙ ap (joined_lanes shape c.args.self.now) c.other.view_is

pub invariant_of-self : goal.invariant_of-self
invariant_of-self c = or_lt 64 c.self.inside.bits c.other.inside.bits c.self.invariant c.other.invariant
