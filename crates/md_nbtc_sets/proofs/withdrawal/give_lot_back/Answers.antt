use Rattle.std.proofs.Common.{◌-◌, ◌<◌, sym, ap, subst, ◌∙◌, arith, le_of_eq}
use Rattle.md_words.specs.declared.shape.Shape.{Shape}
use Rattle.md_arena.specs.Taking.{with_nodes}
use Rattle.md_nbtc_law.proofs.withdrawals.LotBack.{is_free, is_highest, lane_there, number_there, one_back, same_nodes}
use Rattle.md_nbtc_sets.proofs.withdrawal.give_lot_back.Goals as goal

pub loop-place-init : goal.loop-place-init
loop-place-init g c = let all = c.nodes_taken-place.ensures in let first = c.requires.lot.first in record {
  is = same_nodes c.args.pass.now c.args.lot.lane ∙ ap (with_nodes c.args.pass.now c.args.lot.lane) (sym all);
  least = omega (arith, all, first);
  most = le_of_eq all;
}

pub node_of-node-requires-clause-lane : goal.node_of-node-requires-clause-lane
node_of-node-requires-clause-lane g c =
    let i = c.loop-place.invariant in
    subst (λ (s : Shape). c.args.lot.lane < s.lanes) (sym c.shape.ensures.shape)
    (lane_there c.args.pass.now c.loop-place.pass c.args.lot c.loop-place.place c.requires.lot i.is c.loop-place-test.true i.most c.shape.ensures.lanes c.shape.ensures.shares)

pub node_of-node-requires-clause-i : goal.node_of-node-requires-clause-i
node_of-node-requires-clause-i g c =
    let i = c.loop-place.invariant in
    subst (λ (s : Shape). c.loop-place.place - 1 < s.nodes) (sym c.shape.ensures.shape)
    (number_there c.args.pass.now c.loop-place.pass c.args.lot c.loop-place.place c.requires.lot i.is c.loop-place-test.true i.most c.shape.ensures.lanes c.shape.ensures.shares)

pub give_back-requires-clause-highest : goal.give_back-requires-clause-highest
give_back-requires-clause-highest g c =
    let i = c.loop-place.invariant in
    is_highest c.args.pass.now c.loop-place.pass c.args.lot c.loop-place.place c.requires.lot i.is c.loop-place-test.true i.most c.shape.ensures.lanes c.shape.ensures.shares
    c.shape.result.now c.shape.ensures.shape c.node_of-node.result c.node_of-node.ensures.node c.node_of-node.ensures.owner

pub give_back-requires-clause-free : goal.give_back-requires-clause-free
give_back-requires-clause-free g c =
    let i = c.loop-place.invariant in
    is_free c.args.pass.now c.loop-place.pass c.args.lot c.loop-place.place c.requires.lot i.is c.loop-place-test.true i.most c.shape.ensures.lanes c.shape.ensures.shares
    c.shape.result.now c.shape.ensures.shape c.node_of-node.result c.node_of-node.ensures.node c.node_of-node.ensures.owner

pub loop-place-preserved : goal.loop-place-preserved
loop-place-preserved g c =
    let i = c.loop-place.invariant in
    let more = c.loop-place-test.true in
    let most = i.most in record {
      is = one_back c.args.pass.now c.loop-place.pass c.args.lot c.loop-place.place c.requires.lot i.is more most c.shape.ensures.lanes c.shape.ensures.shares
          c.shape.result.now c.shape.ensures.shape c.node_of-node.result c.node_of-node.ensures.node c.node_of-node.ensures.owner c.give_back.new.pass c.give_back.ensures.gives;
      least = omega (arith, more);
      most = omega (arith, most);
    }

pub returns : goal.returns
returns g c =
    let i = c.loop-place.invariant in
    let least = i.least in
    let end = c.loop-place-test.false in
    i.is ∙ ap (with_nodes c.args.pass.now c.args.lot.lane) (omega (arith, least, end))
