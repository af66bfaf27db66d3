-- How a field is laid, a bucket or a queue at a time: the nodes so far, and what comes next.
use Rattle.std.proofs.Common.{◌≡◌, ℕ, ◌+◌, ◌<◌, ◌≤◌, ◌++◌, List, [], ◌∷◌, length, length-append, append_assoc, sym, ap, ◌∙◌, subst, arith}
use Rattle.std.specs.List.{flat_map, range_with_len}
use Rattle.std.proofs.lemmas.List.{append-nil, length-map}
use Rattle.std.proofs.lemmas.List.FromFn.{length-map-range_with_len}
use Rattle.md_words.specs.declared.shape.Shape.{Shape}
use Rattle.md_machine.specs.declared.node.Structure.TheVariants.{Bucket, Queue}
use Rattle.md_store_law.specs.Laid.{LaidNode, IsLaid, numbers_of, dummies, pair_nodes, value_nodes, nodes_of_map, nodes_of_maps, nodes_of_queues, nodes_by}
use Rattle.md_store_layout.specs.Below.{LaidUpTo, maps_below, buckets_below, queues_below}
use Rattle.md_store_law.proofs.Filling.{flat_map_range_more}
use Rattle.md_store_layout.proofs.Growing.{length-value_nodes}
use Rattle.md_store_law.proofs.PairCounts.{pieces_fit}
use Rattle.md_store_layout.proofs.Prefixes.{next_bucket, next_queue}

-- what a cleared list holds after it was read into
pub read_anew : {X : Type 0} (cleared filled shown read : List X) → shown ≡ filled → filled ≡ cleared ++ read → cleared ≡ [] → shown ≡ read
read_anew cleared filled shown read e f none = e ∙ f ∙ ap (λ xs. xs ++ read) none

-- the same nodes
pub laid_as : (shape : Shape) (words : List ℕ) (nodes others : List LaidNode) (next : ℕ) → others ≡ nodes
    → LaidUpTo shape words nodes next → LaidUpTo shape words others next
laid_as shape words nodes others next e l = subst (λ (ns : List LaidNode). LaidUpTo shape words ns next) (sym e) l

module _ (shape : Shape) (pairs : ℕ → ℕ → List (ℕ × ℕ)) (values : ℕ → List ℕ) where
  length-dummies : length (dummies shape.queues) ≡ shape.queues
  length-dummies = length-map-range_with_len {X = LaidNode} (λ q. record { structure = Queue q; key = 0; value = 0 }) 0 shape.queues

  -- at first there are the dummies alone
  pub begin_at : (words : List ℕ) → IsLaid shape words (dummies shape.queues) → LaidUpTo shape words (maps_below shape pairs 0) (shape.queues + 1)
  begin_at words laid = laid_as shape words _ _ (shape.queues + 1) (append-nil (dummies shape.queues))
      (record { laid = laid; first_free = omega (arith, length-dummies) })

  -- one more bucket, one more map, one more queue
  pub buckets_more : (map bucket : ℕ) → buckets_below shape pairs map (bucket + 1) ≡ buckets_below shape pairs map bucket ++ pair_nodes map bucket (pairs map bucket)
  buckets_more map bucket =
      let of = λ (b : ℕ). pair_nodes map b (pairs map b) in
      ap (λ ns. maps_below shape pairs map ++ ns) (flat_map_range_more of bucket)
      ∙ sym (append_assoc (maps_below shape pairs map) (flat_map of (range_with_len 0 bucket)) (of bucket))

  pub maps_more : (map : ℕ) → maps_below shape pairs (map + 1) ≡ buckets_below shape pairs map shape.buckets
  maps_more map =
      let of = nodes_of_map shape pairs in
      ap (λ ns. dummies shape.queues ++ ns) (flat_map_range_more of map)
      ∙ sym (append_assoc (dummies shape.queues) (flat_map of (range_with_len 0 map)) (of map))

  pub queues_more : (queue : ℕ) → queues_below shape pairs values (queue + 1) ≡ queues_below shape pairs values queue ++ value_nodes queue 1 (values queue)
  queues_more queue =
      let of = λ (q : ℕ). value_nodes q 1 (values q) in
      ap (λ ns. maps_below shape pairs shape.maps ++ ns) (flat_map_range_more of queue)
      ∙ sym (append_assoc (maps_below shape pairs shape.maps) (flat_map of (range_with_len 0 queue)) (of queue))

  -- what has come so far and what comes next is no more than all
  pub bucket_fits : (map bucket : ℕ) → map < shape.maps → bucket < shape.buckets
      → length (buckets_below shape pairs map bucket) + length (pairs map bucket) ≤ length (nodes_by shape pairs values)
  bucket_fits map bucket m b =
      let maps = nodes_of_map shape pairs in
      let of = λ (k : ℕ). pair_nodes map k (pairs map k) in
      let all = length-append (maps_below shape pairs shape.maps) (nodes_of_queues values shape.queues) in
      let every = length-append (dummies shape.queues) (flat_map maps (range_with_len 0 shape.maps)) in
      let before = length-append (dummies shape.queues) (flat_map maps (range_with_len 0 map)) in
      let inside = length-append (maps_below shape pairs map) (flat_map of (range_with_len 0 bucket)) in
      let this = length-map {B = LaidNode} (pairs map bucket) (λ p. record { structure = Bucket map bucket; key = p.0; value = p.1 }) in
      let outer = pieces_fit maps map shape.maps m in
      let inner = pieces_fit of bucket shape.buckets b in
      omega (arith, all, every, before, inside, this, outer, inner)

  pub queue_fits : (queue : ℕ) → queue < shape.queues
      → length (queues_below shape pairs values queue) + length (values queue) ≤ length (nodes_by shape pairs values)
  queue_fits queue q =
      let of = λ (k : ℕ). value_nodes k 1 (values k) in
      let all = length-append (maps_below shape pairs shape.maps) (flat_map of (range_with_len 0 shape.queues)) in
      let before = length-append (maps_below shape pairs shape.maps) (flat_map of (range_with_len 0 queue)) in
      let this = length-value_nodes queue 1 (values queue) in
      let fits = pieces_fit of queue shape.queues q in
      omega (arith, all, before, this, fits)

  -- the dummies are among them
  pub dummies_fit : (queue : ℕ) → shape.queues ≤ length (queues_below shape pairs values queue)
  dummies_fit queue =
      let all = length-append (maps_below shape pairs shape.maps) (nodes_of_queues values queue) in
      let before = length-append (dummies shape.queues) (nodes_of_maps shape pairs shape.maps) in
      omega (arith, all, before, length-dummies)

  -- the next bucket has no node yet, and the next queue its dummy alone
  pub bucket_none : (map bucket : ℕ) → numbers_of (buckets_below shape pairs map bucket) (Bucket map bucket) ≡ []
  bucket_none map bucket = next_bucket shape pairs shape.queues map bucket

  pub queue_dummy : (queue : ℕ) → queue < shape.queues → numbers_of (queues_below shape pairs values queue) (Queue queue) ≡ (queue + 1) ∷ []
  queue_dummy queue q = next_queue shape pairs values shape.queues shape.maps queue q
