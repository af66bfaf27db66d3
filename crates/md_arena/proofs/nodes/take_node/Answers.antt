use Rattle.std.proofs.Common.{ap, ◌∙◌, sym, subst, le_of_eq, arith, ◌+◌}
use Rattle.md_words.specs.Lanes.{OwnsNode, node_of}
use Rattle.md_rule.proofs.LaneLists.{lane_exists, lane_fits}
use Rattle.md_arena.proofs.TakenNodes.{lowest_left, taken_by}
use Rattle.md_arena.specs.Taking.{with_nodes}
use Rattle.md_arena.proofs.nodes.take_node.Goals as goal

pub node_of-node-requires-clause-lane : goal.node_of-node-requires-clause-lane
node_of-node-requires-clause-lane g c =
    let p = c.args.pass.now in
    let fits = lane_exists p.shape p.view.lanes c.in-Some.lane c.shape.ensures.lanes c.in-Some.ensures.some.held in
    let of = ap (λ s. s.lanes) c.shape.ensures.shape in omega (arith, fits, of)

pub returns-clause-takes : goal.returns-clause-takes
returns-clause-takes g c =
    let p = c.args.pass.now in let lane = c.in-Some.lane in let lowest = c.in-Some.ensures.some in let same = c.nodes_taken-taken.ensures in
    let fits = lane_fits p.shape p.view.lanes lane c.shape.ensures.lanes lowest.held in let count = c.shape.ensures.shares in record {
      lane = lane;
      shared = omega (arith, fits, count);
      lowest = lowest;
      owns = subst (λ s. OwnsNode s lane c.node_of-node.result) c.shape.ensures.shape c.node_of-node.ensures.owner;
      next = c.node_of-node.ensures.node ∙ ap (λ s. node_of s lane c.nodes_taken-taken.result) c.shape.ensures.shape ∙ ap (node_of p.shape lane) same;
      taken = c.set_nodes_taken.ensures ∙ ap (λ n. with_nodes p lane (n + 1)) same;
    }

pub returns-clause-lowest : goal.returns-clause-lowest
returns-clause-lowest g c = let t = returns-clause-takes g c in lowest_left c.args.pass.now t.lane c.node_of-node.result t.lowest t.owns t.next

pub returns-clause-taken : goal.returns-clause-taken
returns-clause-taken g c = taken_by c.args.pass.now c.node_of-node.result c.set_nodes_taken.new.self (returns-clause-takes g c)

pub returns-clause-free : goal.returns-clause-free
returns-clause-free g c =
    let t = returns-clause-takes g c in
    let p = c.args.pass.now in
    (c.shape.ensures.kept t.lane t.lowest.held).free c.node_of-node.result t.owns (le_of_eq (sym t.next))
