use Rattle.std.proofs.Common.{◌≡◌, ap, sym, arith, rules}
use Rattle.md_store_layout.specs.Below.{maps_below}
use Rattle.md_store_law.specs.Living.{pairs_listed, values_listed}
use Rattle.md_store_layout.proofs.Below.{laid_as, begin_at}
use Rattle.md_store_layout.proofs.compacting.lay_all.Goals as goal

pub loop-map-init : goal.loop-map-init
loop-map-init c =
    let shape = c.args.shape.now in
    begin_at shape (pairs_listed shape c.args.living.now) (values_listed c.args.living.now) c.args.words.now c.requires.laid

pub lay_queues-requires-clause-laid : goal.lay_queues-requires-clause-laid
lay_queues-requires-clause-laid c =
    let shape = c.args.shape.now in
    let end : c.loop-map.map ≡ shape.maps = omega arith in
    laid_as shape c.loop-map.words _ _ c.loop-map.next (ap (maps_below shape (pairs_listed shape c.args.living.now)) (sym end)) c.loop-map.invariant

pub lay_map-next-requires-clause-laid : goal.lay_map-next-requires-clause-laid
lay_map-next-requires-clause-laid c = search rules depth 1

pub loop-map-preserved : goal.loop-map-preserved
loop-map-preserved c = search rules depth 1
