use Rattle.std.proofs.Common.{ap, arith}
use Rattle.md_arena.specs.Left.{HasNodeLeft}
use Rattle.md_arena.proofs.LowestLanes.{lowest_at, none_at_all, none_below_first, none_below_next}
use Rattle.md_arena.proofs.lowest.lane_with_node.Goals as goal

pub returns-then-nodes_taken-nodes-clause-some : goal.returns-then-nodes_taken-nodes-clause-some
returns-then-nodes_taken-nodes-clause-some g c =
    let p = c.args.pass.now in let are = c.shape.ensures.lanes in let some = are.live in
    let less = c.if-nodes_taken-nodes.true in let taken = c.nodes_taken.ensures in let of = ap (λ s. s.nodes) c.shape.ensures.shape in
    lowest_at p (HasNodeLeft p) are 0 c.lane-first.result (omega (arith, some)) c.lane-first.ensures.lane (none_below_first p (HasNodeLeft p)) (omega (arith, less, taken, of))

pub loop-place-init : goal.loop-place-init
loop-place-init g c =
    let p = c.args.pass.now in
    let more = c.if-nodes_taken-nodes.false in let taken = c.nodes_taken.ensures in let of = ap (λ s. s.nodes) c.shape.ensures.shape in
    none_below_next p (HasNodeLeft p) 0 c.lane-first.result (none_below_first p (HasNodeLeft p)) c.lane-first.ensures.lane (λ has. absurd (omega (arith, has, more, taken, of)))

pub returns-then-nodes_taken-nodes-2-clause-some :
    goal.returns-then-nodes_taken-nodes-2-clause-some
returns-then-nodes_taken-nodes-2-clause-some g c =
    let p = c.args.pass.now in let inside = c.loop-place-test.true in let count = c.lanes-place-end.ensures in
    let less = c.if-nodes_taken-nodes-2.true in let taken = c.nodes_taken-in-loop-place.ensures in let of = ap (λ s. s.nodes) c.shape.ensures.shape in
    lowest_at p (HasNodeLeft p) c.shape.ensures.lanes c.loop-place.place c.lane-lane.result (omega (arith, inside, count)) c.lane-lane.ensures.lane
    c.loop-place.invariant (omega (arith, less, taken, of))

pub loop-place-preserved : goal.loop-place-preserved
loop-place-preserved g c =
    let p = c.args.pass.now in
    let more = c.if-nodes_taken-nodes-2.false in let taken = c.nodes_taken-in-loop-place.ensures in let of = ap (λ s. s.nodes) c.shape.ensures.shape in
    none_below_next p (HasNodeLeft p) c.loop-place.place c.lane-lane.result c.loop-place.invariant c.lane-lane.ensures.lane (λ has. absurd (omega (arith, has, more, taken, of)))

pub returns-clause-none : goal.returns-clause-none
returns-clause-none g c =
    let p = c.args.pass.now in
    let some = c.shape.ensures.lanes.live in let count = c.lanes-place-end.ensures in let end = c.loop-place-test.false in let at = c.loop-place.auto.place-end in
    none_at_all p (HasNodeLeft p) (λ k h. c.loop-place.invariant k (omega (arith, h, count, end)))
