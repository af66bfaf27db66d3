use Rattle.std.proofs.Common.{arith}
use Rattle.md_arena.proofs.TakenNodes.{gives, has_base, lane_held, left_by, may_return, number}
use Rattle.md_arena.proofs.nodes.give_back.Goals as goal

pub overflow_sub-lane : goal.overflow_sub-lane
overflow_sub-lane g c = let h = has_base c.args.pass.now c.args.node c.requires.highest c.shape-shape.result.now c.shape-shape.ensures.shape in omega (arith, h)

pub overflow_sub-lane-2 : goal.overflow_sub-lane-2
overflow_sub-lane-2 g c = let h = has_base c.args.pass.now c.args.node c.requires.highest c.shape-shape.result.now c.shape-shape.ensures.shape in omega (arith, h)

pub nodes_taken-taken-requires : goal.nodes_taken-taken-requires
nodes_taken-taken-requires g c = lane_held c.args.pass.now c.args.node c.requires.highest c.shape-shape.result.now c.shape-shape.ensures.shape

pub overflow_sub-taken : goal.overflow_sub-taken
overflow_sub-taken g c = (number c.args.pass.now c.args.node c.requires.highest c.shape-shape.result.now c.shape-shape.ensures.shape c.nodes_taken-taken.result c.nodes_taken-taken.ensures).0

pub set_nodes_taken-requires-clause-lane : goal.set_nodes_taken-requires-clause-lane
set_nodes_taken-requires-clause-lane g c = lane_held c.args.pass.now c.args.node c.requires.highest c.shape-shape.result.now c.shape-shape.ensures.shape

pub set_nodes_taken-requires-clause-fits : goal.set_nodes_taken-requires-clause-fits
set_nodes_taken-requires-clause-fits g c =
    let n = number c.args.pass.now c.args.node c.requires.highest c.shape-shape.result.now c.shape-shape.ensures.shape c.nodes_taken-taken.result c.nodes_taken-taken.ensures in
    let most = n.1 in omega (arith, most)

pub set_nodes_taken-requires-clause-free : goal.set_nodes_taken-requires-clause-free
set_nodes_taken-requires-clause-free g c =
    may_return c.args.pass.now c.args.node c.requires.highest c.shape-shape.result.now c.shape-shape.ensures.shape c.nodes_taken-taken.result c.nodes_taken-taken.ensures c.requires.free

pub returns-clause-gives : goal.returns-clause-gives
returns-clause-gives g c =
    gives c.args.pass.now c.args.node c.requires.highest c.shape-shape.result.now c.shape-shape.ensures.shape c.nodes_taken-taken.result c.nodes_taken-taken.ensures
    c.shape-shape.ensures.lanes c.shape-shape.ensures.shares c.set_nodes_taken.new.self c.set_nodes_taken.ensures

pub returns-clause-left : goal.returns-clause-left
returns-clause-left g c = left_by c.args.pass.now c.args.node c.set_nodes_taken.new.self (returns-clause-gives g c)
