use Rattle.std.proofs.Common.{◌≡◌, ap, sym, arith}
use Rattle.md_history.specs.State.{queue_at}
use Rattle.md_store_law.specs.Laid.{pairs_at}
use Rattle.md_store_layout.specs.Below.{maps_below}
use Rattle.md_store_layout.proofs.Below.{laid_as, begin_at}
use Rattle.md_store_layout.proofs.laying.lay_contents.Goals as goal

pub loop-map-init : goal.loop-map-init
loop-map-init c =
    let shape = c.args.shape.now in
    begin_at shape (pairs_at shape c.args.contents.now) (queue_at c.args.contents.now) c.args.words.now c.requires.laid

pub lay_queues-requires-clause-laid : goal.lay_queues-requires-clause-laid
lay_queues-requires-clause-laid c =
    let shape = c.args.shape.now in
    let end : c.loop-map.map ≡ shape.maps = omega arith in
    laid_as shape c.loop-map.words _ _ c.loop-map.next (ap (maps_below shape (pairs_at shape c.args.contents.now)) (sym end)) c.loop-map.invariant
