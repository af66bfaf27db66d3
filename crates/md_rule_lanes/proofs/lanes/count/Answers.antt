use Rattle.std.proofs.Common.{ap, ◌∙◌, length, arith}
use Rattle.md_rule_lanes.proofs.LaneSets.{lanes_few, lanes_none}
use Rattle.md_rule_lanes.specs.LaneSet.{lanes_in}
use Rattle.md_rule_lanes.proofs.lanes.count.Goals as goal

pub overflow_add-count : goal.overflow_add-count
overflow_add-count c = let few = lanes_few c.args.bits in let is = c.loop-rest.invariant in omega (arith, few, is)

pub returns : goal.returns
returns c =
    let none = ap (λ bits. length (lanes_in bits)) c.loop-rest-test.false ∙ ap length lanes_none in
    let is = c.loop-rest.invariant in
    omega (arith, none, is)
