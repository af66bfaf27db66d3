-- A change of a queue leaves every bucket.
use Rattle.std.proofs.Common.{◌≡◌, ℕ, ◌<◌, ◌⊎◌, List, Some, sym, ap, subst, inr, ⊎_elim}
use Rattle.std.proofs.lemmas.Bool.{cases_eq}
use Rattle.md_words.specs.declared.shape.Shape.{Shape}
use Rattle.md_words.specs.Place.{bucket_head, queue_head, queue_tail}
use Rattle.md_words.proofs.Places.{address_differs}
use Rattle.md_machine.specs.declared.node.Structure.{Structure}
use Rattle.md_machine.specs.declared.node.Structure.TheVariants.{Bucket, Queue}
use Rattle.md_machine.specs.LogicalHeap.{LogicalHeap}
use Rattle.md_list_law.specs.ListShape.{head_word}
use Rattle.md_list_law.proofs.ListKept.{SameList, pairs_same}
use Rattle.md_hash_law.specs.HashTable.{AreBuckets, IsBucketOf, maps_of}
use Rattle.md_hash_law.specs.Laws.Buckets.{head_apart, bucket_same, maps_same}
use Rattle.md_queue_law.specs.Laws.Following.{QueueFollows}
use Rattle.md_store_law.specs.Store.{IsStore, IsQueueOf}

module _ (h k : LogicalHeap) (v : IsStore h) (queue : ℕ) (within : queue < h.words.shape.queues) (values : List ℕ) (f : QueueFollows h queue values k) where
  -- a bucket is the same
  bucket_stays : (map bucket : ℕ) → map < h.words.shape.maps → bucket < h.words.shape.buckets
      → SameList h k (Bucket map bucket) (head_word h.words.shape map bucket)
  bucket_stays map bucket m b = let a = f.nodes (Bucket map bucket) (λ e. cc) in record {
    shape = f.shape;
    there = a.placed;
    back = a.only;
    first = f.words (head_word h.words.shape map bucket) (head_apart h.words.shape map bucket m b)
        (address_differs h.words.shape (bucket_head map bucket) (queue_head queue) (m, b) within (λ e. cc))
        (address_differs h.words.shape (bucket_head map bucket) (queue_tail queue) (m, b) within (λ e. cc));
    next = a.next;
    key_of = a.key_of;
    value_of_node = a.value_of_node;
  }

  pub buckets_stay : AreBuckets k
  buckets_stay map bucket below inside =
      let m = subst (λ (shape : Shape). map < shape.maps) f.shape below in
      let b = subst (λ (shape : Shape). bucket < shape.buckets) f.shape inside in
      bucket_same h k map bucket (bucket_stays map bucket m b) (v.buckets map bucket m b)

  pub maps_stay : maps_of k.words ≡ maps_of h.words
  maps_stay = maps_same h k v.buckets buckets_stay f.shape
      (λ map bucket q m b. pairs_same h k (Bucket map bucket) (head_word h.words.shape map bucket) (bucket_stays map bucket m b) (v.buckets map bucket m b).list q)

  -- every placed node is of a structure of the store
  queue_alone : (node : ℕ) (s : Structure) → k.placed node ≡ Some s → IsBucketOf h.words.shape s ⊎ IsQueueOf h.words.shape s
  queue_alone node (Bucket map bucket) at = v.alone node (Bucket map bucket) ((f.nodes (Bucket map bucket) (λ e. cc)).only node at)
  queue_alone node (Queue q) at = ⊎_elim
      (λ e. inr (queue, within, ap Queue e))
      (λ ne. v.alone node (Queue q) ((f.nodes (Queue q) (λ e. ne (cc))).only node at))
      (cases_eq q queue)

  pub queue_store : IsStore k
  queue_store = record {
    buckets = buckets_stay;
    queues = f.stand;
    alone = λ node s at. subst (λ (shape : Shape). IsBucketOf shape s ⊎ IsQueueOf shape s) (sym f.shape) (queue_alone node s at);
  }
