use Rattle.std.proofs.Common.{◌≡◌, ℕ, ◌++◌, length, length-append, sym, ap, ◌∙◌, arith}
use Rattle.std.specs.Ordering.{nat_cmp}
use Rattle.std.specs.FinMap as fin
use Rattle.std.proofs.lemmas.List.{append-nil, length-map, nil_from_length}
use Rattle.md_machine.specs.declared.node.Structure.TheVariants.{Bucket}
use Rattle.md_history.specs.State.{queue_at}
use Rattle.md_store_law.specs.Laid.{LaidNode, pair_nodes, pairs_at, bucket_pairs}
use Rattle.md_store_layout.specs.Below.{maps_below, buckets_below}
use Rattle.md_store_layout.proofs.Below.{laid_as, buckets_more, maps_more, bucket_fits, bucket_none}
use Rattle.md_store_layout.proofs.Buckets.{boxes_count, box_is}
use Rattle.md_store_layout.proofs.LaidContents.{maps_same}
use Rattle.md_store_layout.proofs.laying.lay_map.Goals as goal

pub returns-then-is_empty : goal.returns-then-is_empty
returns-then-is_empty c =
    let shape = c.args.shape.now in
    let none = nil_from_length c.map-table.result.now.entries (c.is_empty.ensures.0 c.if-is_empty.true) in
    let few = ap fin.len (sym c.map-table.ensures ∙ ap (λ es. fin.from_entries {R = nat_cmp} es) none) ∙ fin.len-empty nat_cmp ℕ in
    laid_as shape c.args.words.now _ _ c.args.first (maps_same shape c.args.contents.now c.requires.numbers c.args.map few) c.requires.laid

pub loop-bucket-init : goal.loop-bucket-init
loop-bucket-init c =
    let shape = c.args.shape.now in
    laid_as shape c.args.words.now _ _ c.args.first (append-nil (maps_below shape (pairs_at shape c.args.contents.now) c.args.map)) c.requires.laid

pub index-requires : goal.index-requires
index-requires c =
    let count = boxes_count (λ b. b.items) c.in_ok-buckets.buckets.items c.args.shape.now _ c.in_ok-buckets.ensures in
    omega (arith, count)

pub append_pairs-next-requires-clause-room : goal.append_pairs-next-requires-clause-room
append_pairs-next-requires-clause-room c =
    let shape = c.args.shape.now in
    let s = c.args.contents.now in
    let found = c.deref.ensures.value ∙ box_is (λ b. b.items) c.in_ok-buckets.buckets.items shape _ c.in_ok-buckets.ensures c.loop-bucket.bucket
    c.index.result.now c.loop-bucket-test.true c.index.ensures ∙ ap (λ t. bucket_pairs shape t c.loop-bucket.bucket) c.map-table.ensures in
    let fits = bucket_fits shape (pairs_at shape s) (queue_at s) c.args.map c.loop-bucket.bucket c.requires.map c.loop-bucket-test.true in
    omega (arith, fits, ap length found, c.loop-bucket.invariant.first_free, c.requires.room)

pub loop-bucket-preserved : goal.loop-bucket-preserved
loop-bucket-preserved c =
    let shape = c.args.shape.now in
    let s = c.args.contents.now in
    let pairs = pairs_at shape s in
    let map = c.args.map in
    let bucket = c.loop-bucket.bucket in
    let nodes = buckets_below shape pairs map bucket in
    let found = c.deref.ensures.value ∙ box_is (λ b. b.items) c.in_ok-buckets.buckets.items shape _ c.in_ok-buckets.ensures bucket
    c.index.result.now c.loop-bucket-test.true c.index.ensures ∙ ap (λ t. bucket_pairs shape t bucket) c.map-table.ensures in
    let more = buckets_more shape pairs (queue_at s) map bucket ∙ ap (λ ps. nodes ++ pair_nodes map bucket ps) (sym found) in
    let last = length-map {B = LaidNode} c.deref.result.now (λ p. record { structure = Bucket map bucket; key = p.0; value = p.1 }) in
    let all = length-append nodes (pair_nodes map bucket c.deref.result.now) in
    laid_as shape c.append_pairs-next.new.words _ _ c.append_pairs-next.result more
    (record {
      laid = c.append_pairs-next.ensures.laid nodes c.loop-bucket.invariant.laid c.loop-bucket.invariant.first_free (bucket_none shape pairs (queue_at s) map bucket);
      first_free = omega (arith, last, all, c.append_pairs-next.ensures.next, c.loop-bucket.invariant.first_free);
    })

pub returns : goal.returns
returns c =
    let shape = c.args.shape.now in
    let pairs = pairs_at shape c.args.contents.now in
    let end : c.loop-bucket.bucket ≡ shape.buckets = omega arith in
    laid_as shape c.loop-bucket.words _ _ c.loop-bucket.next
    (maps_more shape pairs (queue_at c.args.contents.now) c.args.map ∙ ap (buckets_below shape pairs c.args.map) (sym end)) c.loop-bucket.invariant
