-- A change in one bucket: its map changes as the bucket's list does, and all other buckets stay.
use Rattle.std.proofs.Common.{◌≡◌, ℕ, ◌+◌, ◌≢◌, ◌<◌, ◌⊎◌, List, None, map as map_list, set, sym, ap, ◌∙◌, subst, inl, inr, ⊎_elim, arith}
use Rattle.std.specs.List.{range_with_len}
use Rattle.std.specs.Ordering.{nat_cmp}
use Rattle.std.specs.Cmp.{nat_cmp_total}
use Rattle.std.specs.FinMap as fin
use Rattle.std.proofs.lemmas.Bool.{cases_eq}
use Rattle.std.proofs.lemmas.List.FromFn.{get_or-map-range_with_len}
use Rattle.md_words.specs.declared.shape.Shape.{Shape}
use Rattle.md_words.specs.Layout.{bucket_of}
use Rattle.md_words.proofs.Places.{bucket_of_below}
use Rattle.md_history.specs.State.{State, Table, map_at, answer, after}
use Rattle.md_machine.specs.declared.node.Structure.TheVariants.{Bucket}
use Rattle.md_machine.specs.declared.certificate.Certificate.{Certificate}
use Rattle.md_machine.specs.LogicalHeap.{LogicalWords, LogicalHeap}
use Rattle.md_list_law.specs.Walk.{pairs_from, map_of_pairs}
use Rattle.md_list_law.specs.ListShape.{head_word, IsIn, IsList, IsBucket}
use Rattle.md_list_law.proofs.Keys.{none_unless}
use Rattle.md_list_law.proofs.Links.{head_is_no_next, heads_differ}
use Rattle.md_list_law.proofs.Pairs.{found-pair}
use Rattle.md_list_law.proofs.ListKept.{SameList, list_same, pairs_same}
use Rattle.md_list_law.proofs.Elsewhere.{IsNoNext, same_elsewhere}
use Rattle.md_list_law.proofs.Tables.{Does, does_as, same_table, acts}
use Rattle.md_list_law.proofs.Standing.{ListAfter, found_in}
use Rattle.md_hash_law.specs.HashTable.{AreBuckets, pairs_of_map, maps_of}
use Rattle.md_hash_law.specs.Laws.Finds.{find-home}
use Rattle.md_hash_law.specs.Laws.Maps.{map-same, map-set_one}

-- the map of a number
pub table_at : LogicalWords → (map : ℕ) → Table
table_at w map = map_of_pairs (pairs_of_map w map)

-- it is that of the state, whatever the queues are
map_at_is : (w : LogicalWords) (queues : List (List ℕ)) (map : ℕ) → map < w.shape.maps
    → map_at (record { maps = maps_of w; queues = queues }) map ≡ table_at w map
unfolding table_at
map_at_is w queues map m = get_or-map-range_with_len (table_at w) 0 w.shape.maps map map fin.empty m (omega arith)

-- it has at a key what the bucket of the key has
pub get-table_at : (h : LogicalHeap) → AreBuckets h → (map : ℕ) → map < h.words.shape.maps → (q : ℕ)
    → fin.get (table_at h.words map) q ≡ found_in h (head_word h.words.shape map (bucket_of h.words.shape q)) q
unfolding table_at
get-table_at h are map m q =
    let pairs : ℕ → List (ℕ × ℕ) = λ bucket. pairs_from h.words (head_word h.words.shape map bucket) in
    fin.get-from_entries nat_cmp_total (pairs_of_map h.words map) q
    ∙ find-home pairs q (bucket_of h.words.shape q) 0 h.words.shape.buckets (omega arith) (let below = bucket_of_below h.words.shape q in omega (arith, below))
    (λ bucket low high ne. lacks bucket (omega (arith, high)) ne)
  where
    lacks : (bucket : ℕ) → bucket < h.words.shape.buckets → bucket ≢ bucket_of h.words.shape q
        → fin.find nat_cmp q (pairs_from h.words (head_word h.words.shape map bucket)) ≡ None
    lacks bucket b ne = none_unless _ (λ v e.
        let is = are map bucket m b in
        let p = found-pair h (Bucket map bucket) (head_word h.words.shape map bucket) is.list q v e in
        ne (sym (is.keys p.node p.is_in) ∙ ap (bucket_of h.words.shape) p.has_key))

-- a list of a bucket whose keys are the bucket's, told at the shape of another heap
bucket_at : (k : LogicalHeap) (shape : Shape) (map bucket : ℕ) → k.words.shape ≡ shape → IsList k (Bucket map bucket) (head_word shape map bucket)
    → ((node : ℕ) → IsIn k (Bucket map bucket) node → bucket_of shape (k.words.key_of node) ≡ bucket) → IsBucket k map bucket
bucket_at k shape map bucket e list keys = record {
  list = subst (λ (s : Shape). IsList k (Bucket map bucket) (head_word s map bucket)) (sym e) list;
  keys = λ node i. ap (λ (s : Shape). bucket_of s (k.words.key_of node)) e ∙ keys node i;
}

-- a bucket that is the same in another heap
pub bucket_same : (h k : LogicalHeap) (map bucket : ℕ) → SameList h k (Bucket map bucket) (head_word h.words.shape map bucket)
    → IsBucket h map bucket → IsBucket k map bucket
bucket_same h k map bucket same is = bucket_at k h.words.shape map bucket same.shape
    (list_same h k (Bucket map bucket) (head_word h.words.shape map bucket) same is.list)
    (λ node i. let j = same.back node i in ap (bucket_of h.words.shape) (same.key_of node j) ∙ is.keys node j)

-- maps of heaps whose buckets find the same
tables_same : (h k : LogicalHeap) → AreBuckets h → AreBuckets k → k.words.shape ≡ h.words.shape → (map : ℕ) → map < h.words.shape.maps
    → ((q : ℕ) → found_in k (head_word h.words.shape map (bucket_of h.words.shape q)) q ≡ found_in h
    (head_word h.words.shape map (bucket_of h.words.shape q)) q)
    → table_at k.words map ≡ table_at h.words map
tables_same h k are_h are_k e map m same = same_table _ _ (λ q.
    get-table_at k are_k map (subst (λ (s : Shape). map < s.maps) (sym e) m) q
    ∙ ap (λ (s : Shape). found_in k (head_word s map (bucket_of s q)) q) e ∙ same q ∙ sym (get-table_at h are_h map m q))

pub maps_same : (h k : LogicalHeap) → AreBuckets h → AreBuckets k → k.words.shape ≡ h.words.shape
    → ((map bucket q : ℕ) → map < h.words.shape.maps → bucket < h.words.shape.buckets
    → found_in k (head_word h.words.shape map bucket) q ≡ found_in h (head_word h.words.shape map bucket) q)
    → maps_of k.words ≡ maps_of h.words
unfolding table_at
maps_same h k are_h are_k e same =
    ap (λ (s : Shape). map_list (table_at k.words) (range_with_len 0 s.maps)) e
    ∙ map-same (table_at k.words) (table_at h.words) 0 h.words.shape.maps
    (λ map low high. let m : map < h.words.shape.maps = omega (arith, high) in
    tables_same h k are_h are_k e map m (λ q. same map (bucket_of h.words.shape q) q m (bucket_of_below h.words.shape q)))

-- no bucket's head is a next word
pub head_apart : (shape : Shape) (map bucket : ℕ) → map < shape.maps → bucket < shape.buckets → IsNoNext shape (head_word shape map bucket)
head_apart shape map bucket m b node is_node = head_is_no_next shape map bucket node m b is_node

-- a bucket's list was changed
module _ (h k : LogicalHeap) (are : AreBuckets h) (map bucket : ℕ) (m : map < h.words.shape.maps) (b : bucket < h.words.shape.buckets)
    (a : ListAfter h k (Bucket map bucket) (head_word h.words.shape map bucket))
    (home : (node : ℕ) → IsIn k (Bucket map bucket) node → bucket_of h.words.shape (k.words.key_of node) ≡ bucket) where
  -- any other bucket is as it was
  others : (other_map other_bucket : ℕ) → other_map < h.words.shape.maps → other_bucket < h.words.shape.buckets → (other_map ≢ map) ⊎ (other_bucket ≢ bucket)
      → SameList h k (Bucket other_map other_bucket) (head_word h.words.shape other_map other_bucket)
  others other_map other_bucket om ob apart = same_elsewhere h k (Bucket map bucket) (head_word h.words.shape map bucket) a.only
      (head_apart h.words.shape map bucket m b)
      (Bucket other_map other_bucket) (head_word h.words.shape other_map other_bucket)
      (λ e. ⊎_elim (λ ne. ne (cc e)) (λ ne. ne (cc e)) apart)
      (heads_differ h.words.shape other_map other_bucket map bucket om ob m b (λ e. ⊎_elim (λ ne. ne (cc e)) (λ ne. ne (cc e)) apart))
      (head_apart h.words.shape other_map other_bucket om ob)
      (are other_map other_bucket om ob).list

  this_or_other : (other_map other_bucket : ℕ) → ((other_map ≡ map) × (other_bucket ≡ bucket)) ⊎ ((other_map ≢ map) ⊎ (other_bucket ≢ bucket))
  this_or_other other_map other_bucket = ⊎_elim
      (λ e. ⊎_elim (λ f. inl (e, f)) (λ ne. inr (inr ne)) (cases_eq other_bucket bucket))
      (λ ne. inr (inl ne))
      (cases_eq other_map map)

  pub buckets_after : AreBuckets k
  buckets_after other_map other_bucket below inside =
      let om = subst (λ (s : Shape). other_map < s.maps) a.only.shape below in
      let ob = subst (λ (s : Shape). other_bucket < s.buckets) a.only.shape inside in
      ⊎_elim
      (λ t. let this : IsBucket k map bucket = bucket_at k h.words.shape map bucket a.only.shape a.again home in
      subst (λ x. IsBucket k x other_bucket) (sym t.0) (subst (λ x. IsBucket k map x) (sym t.1) this))
      (λ apart. bucket_same h k other_map other_bucket (others other_map other_bucket om ob apart) (are other_map other_bucket om ob))
      (this_or_other other_map other_bucket)

  -- and finds what it found
  pub finds_elsewhere : (other_map other_bucket q : ℕ) → other_map < h.words.shape.maps → other_bucket < h.words.shape.buckets
      → (other_map ≢ map) ⊎ (other_bucket ≢ bucket)
      → found_in k (head_word h.words.shape other_map other_bucket) q ≡ found_in h (head_word h.words.shape other_map other_bucket) q
  finds_elsewhere other_map other_bucket q om ob apart = pairs_same h k (Bucket other_map other_bucket) (head_word h.words.shape other_map other_bucket)
      (others other_map other_bucket om ob apart) (are other_map other_bucket om ob).list q

  -- so only the bucket's map changes
  maps_changed : maps_of k.words ≡ set (maps_of h.words) map (table_at k.words map)
  unfolding table_at
  maps_changed =
      let e : 0 + map ≡ map = omega arith in
      ap (λ (s : Shape). map_list (table_at k.words) (range_with_len 0 s.maps)) a.only.shape
      ∙ map-set_one (table_at k.words) (table_at h.words) 0 h.words.shape.maps map m
      (λ other low high ne. let om : other < h.words.shape.maps = omega (arith, high) in
      tables_same h k are buckets_after a.only.shape other om
      (λ q. finds_elsewhere other (bucket_of h.words.shape q) q om (bucket_of_below h.words.shape q) (inl (λ is. ne (is ∙ sym e)))))
      ∙ ap (λ n. set (maps_of h.words) map (table_at k.words n)) e

  -- and does what the list does
  does_after : (key : ℕ) (c : Certificate) → bucket_of h.words.shape key ≡ bucket
      → Does c map key (found_in k (head_word h.words.shape map bucket)) (found_in h (head_word h.words.shape map bucket))
      → Does c map key (fin.get (table_at k.words map)) (fin.get (table_at h.words map))
  does_after key c at = does_as c map key _ _ _ _ (λ q. ⊎_elim
      (λ e. inl (
        now q ∙ ap (λ n. found_in k (head_word h.words.shape map n) q) e,
        get-table_at h are map m q
            ∙ ap (λ n. found_in h (head_word h.words.shape map n) q) e,
      ))
      (λ ne. inr (
        (λ is. ne (ap (bucket_of h.words.shape) is ∙ at)),
        now q
            ∙ finds_elsewhere map (bucket_of h.words.shape q) q m (bucket_of_below h.words.shape q) (inr ne) ∙ sym (get-table_at h are map m q),
      ))
      (cases_eq (bucket_of h.words.shape q) bucket))
    where
      now : (q : ℕ) → fin.get (table_at k.words map) q ≡ found_in k (head_word h.words.shape map (bucket_of h.words.shape q)) q
      now q = get-table_at k buckets_after map (subst (λ (s : Shape). map < s.maps) (sym a.only.shape) m) q
          ∙ ap (λ (s : Shape). found_in k (head_word s map (bucket_of s q)) q) a.only.shape

  -- the reply and the state are those of the operation, whatever the queues are
  pub acts_after : (key : ℕ) (c : Certificate) (queues : List (List ℕ)) → bucket_of h.words.shape key ≡ bucket
      → Does c map key (found_in k (head_word h.words.shape map bucket)) (found_in h (head_word h.words.shape map bucket))
      → (c.reply ≡ answer (record { maps = maps_of h.words; queues = queues }) c.op)
      × (◌≡◌ {A = State} (record { maps = maps_of k.words; queues = queues }) (after (record { maps = maps_of h.words; queues = queues }) c.op))
  acts_after key c queues at does =
      let s : State = record { maps = maps_of h.words; queues = queues } in
      let this : map_at s map ≡ table_at h.words map = map_at_is h.words queues map m in
      let done = acts s map key (table_at k.words map) c (subst (λ (t : Table). Does c map key (fin.get (table_at k.words map)) (fin.get t))
      (sym this) (does_after key c at does)) in
      (done.0, ap (λ (maps : List Table). record { maps = maps; queues = queues }) maps_changed ∙ done.1)

  -- if the list finds what it found, every bucket does
  pub same_everywhere : ((q : ℕ) → found_in k (head_word h.words.shape map bucket) q ≡ found_in h (head_word h.words.shape map bucket) q)
      → (other_map other_bucket q : ℕ) → other_map < h.words.shape.maps → other_bucket < h.words.shape.buckets
      → found_in k (head_word h.words.shape other_map other_bucket) q ≡ found_in h (head_word h.words.shape other_map other_bucket) q
  same_everywhere same other_map other_bucket q om ob = ⊎_elim
      (λ t. subst (λ (x : ℕ). found_in k (head_word h.words.shape x other_bucket) q ≡ found_in h (head_word h.words.shape x other_bucket) q) (sym t.0)
      (subst (λ (x : ℕ). found_in k (head_word h.words.shape map x) q ≡ found_in h (head_word h.words.shape map x) q) (sym t.1) (same q)))
      (finds_elsewhere other_map other_bucket q om ob)
      (this_or_other other_map other_bucket)
