use Rattle.std.proofs.Common.{◌≡◌, ◌+◌, ◌*◌, ◌++◌, length, length-append, sym, ap, ◌∙◌, arith}
use Rattle.std.proofs.lemmas.List.{append-nil, length-map}
use Rattle.md_machine.specs.declared.node.Structure.TheVariants.{Bucket}
use Rattle.md_store_law.specs.Laid.{LaidNode, pair_nodes}
use Rattle.md_store_layout.specs.Below.{maps_below, buckets_below}
use Rattle.md_store_law.specs.Living.{pairs_listed, values_listed}
use Rattle.md_store_layout.proofs.Below.{laid_as, buckets_more, maps_more, bucket_fits, bucket_none}
use Rattle.md_store_law.proofs.Joined.{number_below}
use Rattle.md_store_layout.proofs.compacting.lay_map.Goals as goal

pub loop-bucket-init : goal.loop-bucket-init
loop-bucket-init c =
    let shape = c.args.shape.now in
    let pairs = pairs_listed shape c.args.living.now in
    laid_as shape c.args.words.now _ _ c.args.first (append-nil (maps_below shape pairs c.args.map)) c.requires.laid

pub list-pairs-requires : goal.list-pairs-requires
list-pairs-requires c =
    let shape = c.args.shape.now in
    c.requires.room.pairs (c.args.map * shape.buckets + c.loop-bucket.bucket)
    (number_below shape (pairs_listed shape c.args.living.now) c.args.map c.loop-bucket.bucket c.requires.map c.loop-bucket-test.true)

pub append_pairs-next-requires-clause-room : goal.append_pairs-next-requires-clause-room
append_pairs-next-requires-clause-room c =
    let shape = c.args.shape.now in
    let living = c.args.living.now in
    let pairs = pairs_listed shape living in
    let fits = bucket_fits shape pairs (values_listed living) c.args.map c.loop-bucket.bucket c.requires.map (omega arith) in
    omega (arith, fits, ap length c.list-pairs.ensures, c.loop-bucket.invariant.first_free, c.requires.room.fits)

pub loop-bucket-preserved : goal.loop-bucket-preserved
loop-bucket-preserved c =
    let shape = c.args.shape.now in
    let living = c.args.living.now in
    let pairs = pairs_listed shape living in
    let values = values_listed living in
    let map = c.args.map in
    let bucket = c.loop-bucket.bucket in
    let nodes = buckets_below shape pairs map bucket in
    let listed = c.list-pairs.result.now in
    let more = buckets_more shape pairs values map bucket ∙ ap (λ ps. nodes ++ pair_nodes map bucket ps) (sym c.list-pairs.ensures) in
    let last = length-map {B = LaidNode} listed (λ p. record { structure = Bucket map bucket; key = p.0; value = p.1 }) in
    let all = length-append nodes (pair_nodes map bucket listed) in
    laid_as shape c.append_pairs-next.new.words _ _ c.append_pairs-next.result more
    (record {
      laid = c.append_pairs-next.ensures.laid nodes c.loop-bucket.invariant.laid c.loop-bucket.invariant.first_free (bucket_none shape pairs values map bucket);
      first_free = omega (arith, last, all, c.append_pairs-next.ensures.next, c.loop-bucket.invariant.first_free);
    })

pub returns : goal.returns
returns c =
    let shape = c.args.shape.now in
    let pairs = pairs_listed shape c.args.living.now in
    let end : c.loop-bucket.bucket ≡ shape.buckets = omega arith in
    laid_as shape c.loop-bucket.words _ _ c.loop-bucket.next
    (maps_more shape pairs (values_listed c.args.living.now) c.args.map ∙ ap (buckets_below shape pairs c.args.map) (sym end)) c.loop-bucket.invariant
