-- The laws of stores, and that they have lists and queues.
use Rattle.std.proofs.Common.{◌≡◌, ℕ, ◌<◌, ◌⊎◌, List, Some, refl, sym, ap, ◌∙◌, subst, inl, inr, ⊎_elim}
use Rattle.std.specs.Prelude.{IsTrue}
use Rattle.std.proofs.lemmas.Bool.{false≢true}
use Rattle.md_words.specs.declared.shape.Shape.{Shape}
use Rattle.md_words.specs.Place.{Place, is_counted, bucket_head, queue_head, queue_tail, node_next, base_word, node_key, node_value, desc_status, read_word, read_content, slot_word, slot_old, slot_new}
use Rattle.md_words.specs.PlaceAt.{place_at}
use Rattle.md_words.specs.Layout.{address, Exists, IsNode, bucket_of}
use Rattle.md_words.proofs.Places.{address-place_at, counted_by_place, bucket_of_below}
use Rattle.md_history.specs.State.{State, Table, answer, after}
use Rattle.md_machine.specs.declared.node.Structure.{Structure}
use Rattle.md_machine.specs.declared.node.Structure.TheVariants.{Bucket}
use Rattle.md_machine.specs.declared.certificate.Certificate.{Certificate}
use Rattle.md_machine.specs.declared.certificate.TidyChange.{TidyChange}
use Rattle.md_machine.specs.LogicalHeap.{LogicalHeap, IsNoUnplacedNext, IsPlaced, AgreeWherePlaced}
use Rattle.md_machine.specs.Meaning.{Lawful, Stands, TidyStands, Follows, NamesPlaced, after_certificate, after_tidy}
use Rattle.md_list_law.specs.ListShape.{head_word}
use Rattle.md_list_law.specs.HasLists.{HasListsOf}
use Rattle.md_list_law.proofs.Order.{onward_names}
use Rattle.md_list_law.proofs.ListKept.{pairs_same}
use Rattle.md_list_law.proofs.Standing.{row_after, unlink_after}
use Rattle.md_list_law.proofs.Framing.{same_framed, names_placed}
use Rattle.md_hash_law.specs.HashTable.{AreBuckets, IsBucketOf, IsTableCertificate, IsTableUnlink}
use Rattle.md_hash_law.specs.Laws.Buckets.{head_apart, bucket_same, buckets_after, same_everywhere, acts_after, maps_same}
use Rattle.md_hash_law.specs.Laws.HashTableLaws.{row_home, unlink_home}
use Rattle.md_hash_law.specs.Laws.Rising.{table_rises, table_tidied}
use Rattle.md_queue_law.specs.QueueValues.{queue_lists}
use Rattle.md_queue_law.specs.QueueCertificates.{CertifiesQueue, MovesTail}
use Rattle.md_queue_law.specs.QueueMeaning.{HasQueuesOf, is_queue_link}
use Rattle.md_queue_law.specs.Laws.Lists.{queue_list}
use Rattle.md_queue_law.specs.Laws.Certifying.{certificate_follows, move_follows}
use Rattle.md_queue_law.specs.Laws.RisingCertificates.{certificate_rises, move_rises}
use Rattle.md_queue_law.specs.Laws.Frames.{queues_framed, one_names_placed, next_names_placed}
use Rattle.md_store_law.specs.Store.{IsStore, IsQueueOf, state_of_store, store}
use Rattle.md_store_law.specs.Laws.Nodes.{node_exists, placed_exist}
use Rattle.md_store_law.specs.Laws.ListChanges.{queue_lists_stay, list_facts, list_store}
use Rattle.md_store_law.specs.Laws.QueueChanges.{maps_stay, queue_store}
use Rattle.md_store_law.specs.Laws.RisingBuckets.{queue_certificate_rises, move_rises as move_rises_bucket}
use Rattle.md_store_law.specs.Laws.RisingQueues.{table_certificate_rises, table_unlink_rises}

-- states of the same parts
same_state : (maps others : List Table) (queues more : List (List ℕ)) → maps ≡ others → queues ≡ more
    → ◌≡◌ {A = State} (record { maps = maps; queues = queues }) (record { maps = others; queues = more })
same_state maps others queues more e f =
    ap (λ (x : List Table). record { maps = x; queues = queues }) e ∙ ap (λ (x : List (List ℕ)). record { maps = others; queues = x }) f

-- a certificate of a map
table_certificate : (h : LogicalHeap) (c : Certificate) → IsStore h → IsTableCertificate h.words.shape c → Stands h c
    → (c.reply ≡ answer (state_of_store h.words) c.op) × Follows store h (after (state_of_store h.words) c.op) (after_certificate h c)
table_certificate h c v (map, key, m, is) stands =
    let k = after_certificate h c in
    let bucket = bucket_of h.words.shape key in
    let b = bucket_of_below h.words.shape key in
    let of = v.buckets map bucket m b in
    let r = row_after h (Bucket map bucket) (head_word h.words.shape map bucket) of.list (head_apart h.words.shape map bucket m b) map key c stands is.row in
    let home = row_home h k map bucket key c of refl r in
    let done = acts_after h k v.buckets map bucket m b r.after home key c (queue_lists h.words) refl r.does in
    let only = r.after.only in (
      done.0,
      record {
        valid = list_store h k v map bucket m b only (buckets_after h k v.buckets map bucket m b r.after home);
        state = same_state _ _ _ _ refl (queue_lists_stay h k v map bucket m b only) ∙ done.1;
        facts = list_facts h k v map bucket m b only;
      },
    )

-- a certificate of a queue
queue_certificate : (h : LogicalHeap) (c : Certificate) → IsStore h → CertifiesQueue h.words.shape c → Stands h c
    → (c.reply ≡ answer (state_of_store h.words) c.op) × Follows store h (after (state_of_store h.words) c.op) (after_certificate h c)
queue_certificate h c v is stands =
    let k = after_certificate h c in
    let f = certificate_follows h c (state_of_store h.words) (placed_exist h v) v.queues refl is stands in (
      f.reply,
      record {
        valid = queue_store h k v f.queue f.within f.values f.follows;
        state = same_state _ _ _ _ (maps_stay h k v f.queue f.within f.values f.follows) f.follows.lists ∙ sym f.state;
        facts = f.follows.facts;
      },
    )

-- an unlink, and a move of a tail
unlink_tidy : (h : LogicalHeap) (t : TidyChange) → IsStore h → IsTableUnlink h.words.shape t → TidyStands h t
    → Follows store h (state_of_store h.words) (after_tidy h t)
unlink_tidy h t v (map, bucket, m, b, is) stands =
    let k = after_tidy h t in
    let of = v.buckets map bucket m b in
    let r = unlink_after h (Bucket map bucket) (head_word h.words.shape map bucket) of.list (head_apart h.words.shape map bucket m b) t is stands in
    let home = unlink_home h k map bucket of r in
    let buckets = buckets_after h k v.buckets map bucket m b r.after home in
    let only = r.after.only in
    record {
      valid = list_store h k v map bucket m b only buckets;
      state = same_state _ _ _ _ (maps_same h k v.buckets buckets only.shape (same_everywhere h k v.buckets map bucket m b r.after home r.same))
          (queue_lists_stay h k v map bucket m b only);
      facts = list_facts h k v map bucket m b only;
    }

move_tidy : (h : LogicalHeap) (t : TidyChange) → IsStore h → MovesTail h.words.shape t → TidyStands h t → Follows store h (state_of_store h.words) (after_tidy h t)
move_tidy h t v is stands =
    let k = after_tidy h t in
    let f = move_follows h t (placed_exist h v) v.queues is stands in
    record {
      valid = queue_store h k v f.queue f.within _ f.follows;
      state = same_state _ _ _ _ (maps_stay h k v f.queue f.within _ f.follows) f.lists;
      facts = f.follows.facts;
    }

-- heaps that agree where nodes are placed
framed : (h k : LogicalHeap) → IsStore h → AgreeWherePlaced h k → IsStore k × (state_of_store k.words ≡ state_of_store h.words)
framed h k v a =
    let same = λ (map bucket : ℕ) (m : map < h.words.shape.maps) (b : bucket < h.words.shape.buckets).
    same_framed h k a (Bucket map bucket) map bucket m b (v.buckets map bucket m b).list in
    let buckets : AreBuckets k = λ map bucket below inside.
    let m = subst (λ (shape : Shape). map < shape.maps) a.shape below in
    let b = subst (λ (shape : Shape). bucket < shape.buckets) a.shape inside in
    bucket_same h k map bucket (same map bucket m b) (v.buckets map bucket m b) in
    let queues = queues_framed h k (placed_exist h v) a v.queues in (
      record {
        buckets = buckets;
        queues = queues.0;
        alone = λ node s at. subst (λ (shape : Shape). IsBucketOf shape s ⊎ IsQueueOf shape s) (sym a.shape) (v.alone node s (sym (a.placed node) ∙ at));
      },
      same_state _ _ _ _ (maps_same h k v.buckets buckets a.shape
          (λ map bucket q m b. pairs_same h k (Bucket map bucket) (head_word h.words.shape map bucket) (same map bucket m b) (v.buckets map bucket m b).list q))
          queues.1,
    )

-- a placed node's next word names no node, or a placed one
next_names : (h : LogicalHeap) → IsStore h → (node : ℕ) (s : Structure) → h.placed node ≡ Some s
    → NamesPlaced h (h.words.value (address h.words.shape (node_next node)))
next_names h v node s at = ⊎_elim
    (λ t. let is = (v.buckets t.0 t.1 t.2 t.3).list in let list = Bucket t.0 t.1 in
    names_placed h list _ (onward_names h list _ _ (is.rises node (at ∙ ap (λ (x : Structure). Some x) t.4))))
    (λ t. next_names_placed h t.0 (v.queues t.0 t.1) node (at ∙ ap (λ (x : Structure). Some x) t.2))
    (v.alone node s at)

-- and so does each counted word but the next words of nodes that aren't placed
place_names : (h : LogicalHeap) → IsStore h → (p : Place) → Exists h.words.shape p → IsTrue (is_counted p) → IsNoUnplacedNext h (address h.words.shape p)
    → NamesPlaced h (h.words.value (address h.words.shape p))
place_names h v (bucket_head map bucket) is counted free = names_placed h (Bucket map bucket) _ (v.buckets map bucket is.0 is.1).list.first
place_names h v (queue_head queue) is counted free = let s = v.queues queue is in one_names_placed h queue s _ s.head
place_names h v (queue_tail queue) is counted free = let s = v.queues queue is in one_names_placed h queue s _ s.tail
place_names h v (node_next node) is counted free = let placed = free node is refl in next_names h v node placed.0 placed.1
place_names h v base_word is counted free = absurd (false≢true counted)
place_names h v (node_key node) is counted free = absurd (false≢true counted)
place_names h v (node_value node) is counted free = absurd (false≢true counted)
place_names h v (desc_status desc) is counted free = absurd (false≢true counted)
place_names h v (read_word desc i) is counted free = absurd (false≢true counted)
place_names h v (read_content desc i) is counted free = absurd (false≢true counted)
place_names h v (slot_word desc j) is counted free = absurd (false≢true counted)
place_names h v (slot_old desc j) is counted free = absurd (false≢true counted)
place_names h v (slot_new desc j) is counted free = absurd (false≢true counted)

pub store_lawful : Lawful store
store_lawful = record {
  certificate = λ h c v is stands. ⊎_elim (λ table. table_certificate h c v table stands) (λ queue. queue_certificate h c v queue stands) is;
  tidy = λ h t v is stands. ⊎_elim (λ unlink. unlink_tidy h t v unlink stands) (λ move. move_tidy h t v move stands) is;
  frame = λ h k v a. framed h k v a;
  link = λ h word v counted link free.
      let p = place_at h.words.shape word in
      let found = address-place_at h.words.shape word counted.0 in
      let goal : NamesPlaced h (h.words.value (address h.words.shape p)) = place_names h v p found.0 counted.1 (subst (IsNoUnplacedNext h) (sym found.1) free) in
      subst (λ w. NamesPlaced h (h.words.value w)) found.1 goal;
}

-- each placed node is one of the field
node_of : (h : LogicalHeap) (node : ℕ) → IsStore h → IsPlaced h node → IsNode h.words.shape node
node_of h node v placed = node_exists h v node placed

-- a queue's links are counted words
queue_link_counted : (p : Place) → IsTrue (is_queue_link p) → IsTrue (is_counted p)
queue_link_counted (queue_head _) link = refl
queue_link_counted (queue_tail _) link = refl
queue_link_counted (node_next _) link = refl
queue_link_counted base_word link = absurd (false≢true link)
queue_link_counted (bucket_head _ _) link = refl
queue_link_counted (node_key _) link = absurd (false≢true link)
queue_link_counted (node_value _) link = absurd (false≢true link)
queue_link_counted (desc_status _) link = absurd (false≢true link)
queue_link_counted (read_word _ _) link = absurd (false≢true link)
queue_link_counted (read_content _ _) link = absurd (false≢true link)
queue_link_counted (slot_word _ _) link = absurd (false≢true link)
queue_link_counted (slot_old _ _) link = absurd (false≢true link)
queue_link_counted (slot_new _ _) link = absurd (false≢true link)

-- stores have lists and queues
pub store_has_lists : HasListsOf store
store_has_lists = record {
  buckets = λ h map bucket v m b. v.buckets map bucket m b;
  nodes = node_of;
  certifies = λ shape map key c m is. inl (map, key, m, is);
  unlinks = λ shape map bucket t m b is. inl (map, bucket, m, b, is);
  heads = λ shape map bucket m b. let e = counted_by_place shape (bucket_head map bucket) (m, b) in e.1 refl;
  next_words = λ shape node is. let e = counted_by_place shape (node_next node) is in e.1 refl;
  rising = λ own h map bucket c m b is stands r. ⊎_elim
      (λ table. table_rises own h map bucket c m b table stands r)
      (λ queue. queue_certificate_rises own h map bucket m b r c queue stands)
      is;
  rising_tidied = λ own h map bucket t m b is stands r. ⊎_elim
      (λ unlink. table_tidied own h map bucket t m b unlink stands r)
      (λ move. move_rises_bucket own h map bucket m b r t move)
      is;
}

pub store_has_queues : HasQueuesOf store
store_has_queues = record {
  stand = λ h v. v.queues;
  values = λ h queue v within. queue_list h.words queue within;
  nodes = node_of;
  certifies = λ shape c is. inr is;
  tidies = λ shape t is. inr is;
  links = λ shape p is link. let e = counted_by_place shape p is in e.1 (queue_link_counted p link);
  rising = λ own h queue c within is stands r. ⊎_elim
      (λ table. table_certificate_rises own h queue c within table stands r)
      (λ of. certificate_rises own h queue within r c of stands)
      is;
  rising_tidied = λ own h queue t within is stands r. ⊎_elim
      (λ unlink. table_unlink_rises own h queue t within unlink stands r)
      (λ move. move_rises own h queue within r t move stands)
      is;
}
