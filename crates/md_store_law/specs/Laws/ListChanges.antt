-- A change of a bucket's list leaves every queue.
use Rattle.std.proofs.Common.{◌≡◌, ◌≢◌, ℕ, ◌<◌, ◌⊎◌, Some, sym, ap, ◌∙◌, subst, inl, ⊎_elim}
use Rattle.md_words.specs.declared.shape.Shape.{Shape}
use Rattle.md_words.specs.Place.{Place, bucket_head, queue_head, queue_tail, node_next}
use Rattle.md_words.specs.Layout.{address, Exists, IsNode}
use Rattle.md_words.proofs.Places.{address_differs}
use Rattle.md_machine.specs.declared.node.Structure.{Structure}
use Rattle.md_machine.specs.declared.node.Structure.TheVariants.{Bucket, Queue}
use Rattle.md_machine.specs.LogicalHeap.{LogicalHeap}
use Rattle.md_machine.specs.Meaning.{KeepsFacts}
use Rattle.md_list_law.specs.ListShape.{head_word}
use Rattle.md_list_law.proofs.Elsewhere.{ChangesOnly, stays, next_same, facts_kept}
use Rattle.md_hash_law.specs.HashTable.{AreBuckets, IsBucketOf}
use Rattle.md_hash_law.specs.Laws.Buckets.{head_apart}
use Rattle.md_queue_law.specs.QueueShape.{QueuesStand}
use Rattle.md_queue_law.specs.QueueValues.{queue_lists}
use Rattle.md_queue_law.specs.Laws.Agreement.{NodesAgree, QueueAgrees, shape_agrees, values_agree}
use Rattle.md_queue_law.specs.Laws.Lists.{lists_same}
use Rattle.md_store_law.specs.Store.{IsStore, IsQueueOf}
use Rattle.md_store_law.specs.Laws.Nodes.{placed_exist, node_exists}

module _ (h k : LogicalHeap) (v : IsStore h) (map bucket : ℕ) (m : map < h.words.shape.maps) (b : bucket < h.words.shape.buckets)
    (only : ChangesOnly h k (Bucket map bucket) (head_word h.words.shape map bucket)) where
  abbrev head : ℕ
  head = head_word h.words.shape map bucket

  still : (node : ℕ) (s : Structure) → h.placed node ≡ Some s → k.placed node ≡ Some s
  still = stays h k (Bucket map bucket) head only (head_apart h.words.shape map bucket m b)

  -- the nodes of a queue
  queue_nodes : (queue : ℕ) → NodesAgree h k (Queue queue)
  queue_nodes queue = record {
    shape = only.shape;
    placed = λ node at. still node (Queue queue) at;
    only = λ node at. ⊎_elim (λ e. sym e ∙ at) (λ t. let there = t.1 in absurd (cc (at, there))) (only.placed node);
    key_of = λ node at. only.key_of node (Queue queue, at);
    value_of_node = λ node at. only.value_of_node node (Queue queue, at);
    next = λ node at. ⊎_elim (λ e. e)
        (λ there. let now = still node (Queue queue) at in absurd (cc (now, there)))
        (next_same h k (Bucket map bucket) head only (head_apart h.words.shape map bucket m b) node (placed_exist h v node (Queue queue) at));
  }

  -- a word that is neither a bucket's head nor a node's
  root_same : (p : Place) → Exists h.words.shape p → p ≢ bucket_head map bucket → ((node : ℕ) → p ≢ node_next node)
      → k.words.value (address k.words.shape p) ≡ h.words.value (address h.words.shape p)
  root_same p is no_head no_next = ap (λ (shape : Shape). k.words.value (address shape p)) only.shape ∙ ⊎_elim (λ e. e)
      (λ word. ⊎_elim
      (λ e. absurd (address_differs h.words.shape p (bucket_head map bucket) is (m, b) no_head e))
      (λ t. let is_node = subst (λ (shape : Shape). IsNode shape t.0) only.shape t.2 in
      absurd (address_differs h.words.shape p (node_next t.0) is is_node (no_next t.0) (t.3 ∙ ap (λ (shape : Shape). address shape (node_next t.0)) only.shape)))
      word)
      (only.elsewhere (address h.words.shape p))

  queue_agrees : (queue : ℕ) → queue < h.words.shape.queues → QueueAgrees h k queue
  queue_agrees queue within = record {
    nodes = queue_nodes queue;
    head = root_same (queue_head queue) within (λ e. cc) (λ node e. cc);
    tail = root_same (queue_tail queue) within (λ e. cc) (λ node e. cc);
  }

  pub queues_stay : QueuesStand k
  queues_stay queue below = let within = subst (λ (shape : Shape). queue < shape.queues) only.shape below in
      shape_agrees h k queue (queue_agrees queue within) (v.queues queue within)

  pub queue_lists_stay : queue_lists k.words ≡ queue_lists h.words
  queue_lists_stay = lists_same h.words k.words only.shape
      (λ queue within. values_agree h k queue (queue_nodes queue) (queue_agrees queue within).head (v.queues queue within))

  -- every placed node is of a structure of the store, and every fact holds
  pub list_alone : (node : ℕ) (s : Structure) → k.placed node ≡ Some s → IsBucketOf k.words.shape s ⊎ IsQueueOf k.words.shape s
  list_alone node s at = subst (λ (shape : Shape). IsBucketOf shape s ⊎ IsQueueOf shape s) (sym only.shape)
      (⊎_elim (λ e. v.alone node s (sym e ∙ at)) (λ t. let there = t.1 in inl (map, bucket, m, b, cc (at, there))) (only.placed node))

  pub list_facts : KeepsFacts h k
  list_facts = facts_kept h k map bucket head only (head_apart h.words.shape map bucket m b) (node_exists h v)

-- so the heap after it is a store
pub list_store : (h k : LogicalHeap) → IsStore h → (map bucket : ℕ) (m : map < h.words.shape.maps) (b : bucket < h.words.shape.buckets)
    → (only : ChangesOnly h k (Bucket map bucket) (head_word h.words.shape map bucket)) → AreBuckets k → IsStore k
list_store h k v map bucket m b only buckets = record {
  buckets = buckets;
  queues = queues_stay h k v map bucket m b only;
  alone = list_alone h k v map bucket m b only;
}
