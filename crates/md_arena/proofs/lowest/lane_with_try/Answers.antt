use Rattle.std.proofs.Common.{ap, arith}
use Rattle.md_arena.specs.Left.{HasTryLeft}
use Rattle.md_arena.proofs.LowestLanes.{lowest_at, none_at_all, none_below_first, none_below_next}
use Rattle.md_arena.proofs.lowest.lane_with_try.Goals as goal

pub returns-then-tries_taken-tries-clause-some : goal.returns-then-tries_taken-tries-clause-some
returns-then-tries_taken-tries-clause-some g c =
    let p = c.args.pass.now in let are = c.shape.ensures.lanes in let some = are.live in
    let less = c.if-tries_taken-tries.true in let taken = c.tries_taken.ensures in let of = ap (λ s. s.tries) c.shape.ensures.shape in
    lowest_at p (HasTryLeft p) are 0 c.lane-first.result (omega (arith, some)) c.lane-first.ensures.lane (none_below_first p (HasTryLeft p)) (omega (arith, less, taken, of))

pub loop-place-init : goal.loop-place-init
loop-place-init g c =
    let p = c.args.pass.now in
    let more = c.if-tries_taken-tries.false in let taken = c.tries_taken.ensures in let of = ap (λ s. s.tries) c.shape.ensures.shape in
    none_below_next p (HasTryLeft p) 0 c.lane-first.result (none_below_first p (HasTryLeft p)) c.lane-first.ensures.lane (λ has. absurd (omega (arith, has, more, taken, of)))

pub returns-then-tries_taken-tries-2-clause-some :
    goal.returns-then-tries_taken-tries-2-clause-some
returns-then-tries_taken-tries-2-clause-some g c =
    let p = c.args.pass.now in let inside = c.loop-place-test.true in let count = c.lanes-place-end.ensures in
    let less = c.if-tries_taken-tries-2.true in let taken = c.tries_taken-in-loop-place.ensures in let of = ap (λ s. s.tries) c.shape.ensures.shape in
    lowest_at p (HasTryLeft p) c.shape.ensures.lanes c.loop-place.place c.lane-lane.result (omega (arith, inside, count)) c.lane-lane.ensures.lane
    c.loop-place.invariant (omega (arith, less, taken, of))

pub loop-place-preserved : goal.loop-place-preserved
loop-place-preserved g c =
    let p = c.args.pass.now in
    let more = c.if-tries_taken-tries-2.false in let taken = c.tries_taken-in-loop-place.ensures in let of = ap (λ s. s.tries) c.shape.ensures.shape in
    none_below_next p (HasTryLeft p) c.loop-place.place c.lane-lane.result c.loop-place.invariant c.lane-lane.ensures.lane (λ has. absurd (omega (arith, has, more, taken, of)))

pub returns-clause-none : goal.returns-clause-none
returns-clause-none g c =
    let p = c.args.pass.now in
    let some = c.shape.ensures.lanes.live in let count = c.lanes-place-end.ensures in let end = c.loop-place-test.false in let at = c.loop-place.auto.place-end in
    none_at_all p (HasTryLeft p) (λ k h. c.loop-place.invariant k (omega (arith, h, count, end)))
