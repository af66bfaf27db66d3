use Rattle.std.proofs.Common.{ap, subst, ◌∙◌, if◌then◌else◌, le_refl, arith}
use Rattle.md_history.specs.Front.{is_lane_of}
use Rattle.md_rule_lanes.proofs.Sharing.{TakenBelow, taken_none, taken_more, taken_all}
use Rattle.md_rule_lanes.specs.Shares.{share_at}
use Rattle.md_rule_lanes.proofs.shares.take_shares.Goals as goal

pub loop-lane-init : goal.loop-lane-init
loop-lane-init c = taken_none c.args.lanes.now c.args.mine.now c.args.others.now c.told-mine

pub loop-lane-preserved : goal.loop-lane-preserved
loop-lane-preserved c =
    let lane = c.loop-lane.lane in
    let lanes = c.args.lanes.now in
    let others = c.args.others.now in
    taken_more lanes c.args.mine.now others c.loop-lane.mine lane c.one_of.result c.loop-lane.invariant c.loop-lane-test.true
    (c.one_of.ensures
    ∙ ap (λ b. if b then share_at others lane else share_at c.loop-lane.mine lane) c.has.ensures
    ∙ ap (λ s. if is_lane_of lanes lane then share_at others lane else s) (c.loop-lane.invariant.left lane (le_refl lane)))

pub returns : goal.returns
returns c =
    let end = c.loop-lane.auto.lane-end in
    let out = c.loop-lane-test.false in
    taken_all c.args.lanes.now c.args.mine.now c.args.others.now c.loop-lane.mine
    (subst (TakenBelow c.args.lanes.now c.args.mine.now c.args.others.now c.loop-lane.mine) (omega (arith, end, out)) c.loop-lane.invariant)
