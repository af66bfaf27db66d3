-- The nodes of contents: their number, and that a field of them has these contents.
use Rattle.std.proofs.Common.{◌≡◌, ◌≢◌, ℕ, zero, suc, ◌+◌, ◌<◌, ◌≤◌, ◌==◌, ◌++◌, ◌&&◌, Bool, T, cond, true, false, eqb, List, [], ◌∷◌, length, length-append, Some, None, refl, sym, ap, ◌∙◌, subst, ⊎_elim, arith}
use Rattle.std.specs.List.{AllByRecursion, filter, flat_map, range_with_len, sum_by}
use Rattle.std.specs.List.Sorted.{IsStrictlySortedBy}
use Rattle.std.specs.Ordering.{nat_cmp, is_lt}
use Rattle.std.specs.declared.cmp.Ordering.{Ordering}
use Rattle.std.specs.declared.cmp.Ordering.TheVariants.{Less, Equal, Greater}
use Rattle.std.specs.Cmp.{nat_cmp_total}
use Rattle.std.specs.Map.{keys_of}
use Rattle.std.specs.FinMap as fin
use Rattle.std.specs.FinMap.Entries.{below_all, is_sorted-where_key, find-where_key}
use Rattle.std.proofs.lemmas.Bool.{cases_eq, cond-true, cond-false, eq-eqb, ne_eqb}
use Rattle.std.proofs.lemmas.List.{append-nil, length-map, nil_from_length}
use Rattle.std.proofs.lemmas.List.FromFn.{fill_by_all, length-map-range_with_len}
use Rattle.md_words.specs.declared.shape.Shape.{Shape}
use Rattle.md_words.specs.Layout.{bucket_of}
use Rattle.md_words.proofs.Places.{bucket_of_below}
use Rattle.md_history.specs.State.{State, Table, map_at, queue_at}
use Rattle.md_machine.specs.declared.node.Structure.TheVariants.{Bucket, Queue}
use Rattle.md_list_law.specs.Walk.{pairs_from, map_of_pairs}
use Rattle.md_list_law.specs.ListShape.{head_word}
use Rattle.md_list_law.proofs.Tables.{same_table}
use Rattle.md_hash_law.specs.HashTable.{pairs_of_map, maps_of}
use Rattle.md_hash_law.specs.Laws.Finds.{find-append_last, find-append_none}
use Rattle.md_queue_law.specs.QueueValues.{queue_values, queue_lists}
use Rattle.md_store_law.specs.Store.{state_of_store}
use Rattle.md_store_law.specs.Field.{logical_words}
use Rattle.md_history.specs.Engine.{needed}
use Rattle.md_store_law.specs.Laid.{LaidNode, IsLaid, HasMapsAndQueues, dummies, pair_nodes, value_nodes, nodes_of_map, nodes_of_maps, nodes_of_queues, bucket_pairs, pairs_at, laid_nodes}
use Rattle.md_store_layout.specs.Below.{maps_below}
use Rattle.md_store_law.proofs.Sums.{apart_sorted, len-apart}
use Rattle.md_store_law.proofs.Filling.{flat_map_range_more}
use Rattle.md_store_law.proofs.PairCounts.{apart-pieces, lacks-pieces, length-pieces}
use Rattle.md_store_layout.proofs.Growing.{length-value_nodes}
use Rattle.md_store_layout.proofs.Stores.{StandFor, AreSorted, pairs_laid, values_laid}

-- a sorted list of entries, as its order by comparison tells
both : (a b : Bool) → T (a && b) → T a × T b
both true b h = (tt, h)
both false b h = absurd h

is_less : (r : Ordering) → T (is_lt r) → r ≡ Less
is_less Less h = refl
is_less Equal h = absurd h
is_less Greater h = absurd h

all_above : (k : ℕ) (es : List (ℕ × ℕ)) → T (below_all nat_cmp k es) → AllByRecursion (λ y. nat_cmp k y ≡ Less) (keys_of es)
all_above k [] h = tt
all_above k (e ∷ es) h = let t = both (is_lt (nat_cmp k e.0)) (below_all nat_cmp k es) h in (is_less _ t.0, all_above k es t.1)

sorted_keys : (es : List (ℕ × ℕ)) → T (fin.is_sorted nat_cmp es) → IsStrictlySortedBy nat_cmp (keys_of es)
unfolding IsStrictlySortedBy
sorted_keys [] h = tt
sorted_keys (e ∷ es) h = let t = both (below_all nat_cmp e.0 es) (fin.is_sorted nat_cmp es) h in (all_above e.0 es t.0, sorted_keys es t.1)

module _ (shape : Shape) (t : Table) where
  -- the keys of a bucket's pairs rise, and are of the bucket
  pub pairs_rise : (bucket : ℕ) → IsStrictlySortedBy nat_cmp (keys_of (bucket_pairs shape t bucket))
  pairs_rise bucket = sorted_keys (bucket_pairs shape t bucket)
      (is_sorted-where_key nat_cmp (λ k. bucket_of shape k == bucket) (fin.entries t) (fin.entries_sorted t))

  pub pairs_home : (bucket : ℕ) → AllByRecursion (λ p. bucket_of shape p.0 ≡ bucket) (bucket_pairs shape t bucket)
  pairs_home bucket = all (fin.entries t)
    where
      all : (es : List (ℕ × ℕ)) → AllByRecursion (λ p. bucket_of shape p.0 ≡ bucket) (filter (λ p. bucket_of shape p.0 == bucket) es)
      all [] = tt
      all (e ∷ es) = ⊎_elim
          (λ is. subst (AllByRecursion (λ p. bucket_of shape p.0 ≡ bucket)) (sym (cond-true (eqb (bucket_of shape e.0) bucket) _ _ (eq-eqb _ bucket is))) (is, all es))
          (λ ne. subst (AllByRecursion (λ p. bucket_of shape p.0 ≡ bucket)) (sym (cond-false (eqb (bucket_of shape e.0) bucket) _ _ (ne_eqb _ bucket ne))) (all es))
          (cases_eq (bucket_of shape e.0) bucket)

  -- a key is found in its own bucket, as in the map, and in no other
  find-bucket : (q bucket : ℕ) → fin.find nat_cmp q (bucket_pairs shape t bucket) ≡ cond (eqb (bucket_of shape q) bucket) (fin.find nat_cmp q (fin.entries t)) None
  find-bucket q bucket = find-where_key nat_cmp (λ k. bucket_of shape k == bucket) q
      (λ x e. ap (λ k. bucket_of shape k == bucket) (sym (fin.nat_cmp-IsAntisymmetric q x e))) (fin.entries t)

  lacks-other : (q bucket : ℕ) → bucket_of shape q ≢ bucket → fin.find nat_cmp q (bucket_pairs shape t bucket) ≡ None
  lacks-other q bucket ne = find-bucket q bucket ∙ cond-false (eqb (bucket_of shape q) bucket) _ None (ne_eqb (bucket_of shape q) bucket ne)

  found-home : (q bucket v : ℕ) → fin.find nat_cmp q (bucket_pairs shape t bucket) ≡ Some v → bucket_of shape q ≡ bucket
  found-home q bucket v e = ⊎_elim (λ is. is) (λ ne. absurd (none_some (sym (lacks-other q bucket ne) ∙ e))) (cases_eq (bucket_of shape q) bucket)
    where
      none_some : None ≡ Some v → ⊥
      none_some e = cc e

  find-buckets : (q a n : ℕ) → a ≤ bucket_of shape q → bucket_of shape q < a + n
      → fin.find nat_cmp q (flat_map (bucket_pairs shape t) (range_with_len a n)) ≡ fin.find nat_cmp q (fin.entries t)
  find-buckets q a zero low high = absurd (omega arith)
  find-buckets q a (suc n) low high = ⊎_elim
      (λ is. find-append_last q (bucket_pairs shape t a) (flat_map (bucket_pairs shape t) (range_with_len (a + 1) n))
      (lacks-pieces (bucket_pairs shape t) q (a + 1) n (λ b above below. lacks-other q b (λ e. omega arith)))
      ∙ find-bucket q a ∙ cond-true (eqb (bucket_of shape q) a) _ None (eq-eqb (bucket_of shape q) a is))
      (λ ne. find-append_none q (bucket_pairs shape t a) (flat_map (bucket_pairs shape t) (range_with_len (a + 1) n)) (lacks-other q a ne)
      ∙ find-buckets q (a + 1) n (omega arith) (omega arith))
      (cases_eq (bucket_of shape q) a)

  -- the pairs of all buckets make the map
  pub table-buckets : map_of_pairs (flat_map (bucket_pairs shape t) (range_with_len 0 shape.buckets)) ≡ t
  table-buckets = same_table _ t (λ q. fin.get-from_entries nat_cmp_total _ q
      ∙ find-buckets q 0 shape.buckets (omega arith) (let below = bucket_of_below shape q in omega arith) ∙ sym (fin.get-entries t q))

  -- and are as many
  len-buckets : fin.len t ≡ length (flat_map (bucket_pairs shape t) (range_with_len 0 shape.buckets))
  len-buckets = ap fin.len (sym table-buckets)
      ∙ len-apart _ (apart-pieces (bucket_pairs shape t) (bucket_of shape) 0 shape.buckets
      (λ b low high. apart_sorted _ (pairs_rise b)) (λ b q v low high e. found-home q b v e))

-- pieces that are the same
pub flat_map_same : {X : Type 0} (f g : ℕ → List X) (a n : ℕ) → ((b : ℕ) → a ≤ b → b < a + n → f b ≡ g b) → flat_map f (range_with_len a n) ≡ flat_map g (range_with_len a n)
flat_map_same f g a zero same = refl
flat_map_same f g a (suc n) same =
    ap (λ xs. xs ++ flat_map f (range_with_len (a + 1) n)) (same a (omega arith) (omega arith))
    ∙ ap (λ xs. g a ++ xs) (flat_map_same f g (a + 1) n (λ b low high. same b (omega arith) (omega arith)))

module _ (shape : Shape) (s : State) (numbers : HasMapsAndQueues shape s) where
  pub contents_sorted : AreSorted shape (pairs_at shape s)
  contents_sorted = record {
    rise = λ map bucket m b. pairs_rise shape (map_at s map) bucket;
    home = λ map bucket m b. pairs_home shape (map_at s map) bucket;
  }

  map_count : (map : ℕ) → length (nodes_of_map shape (pairs_at shape s) map) ≡ fin.len (map_at s map)
  map_count map =
      length-pieces (λ b. pair_nodes map b (pairs_at shape s map b)) length (pairs_at shape s map) 0 shape.buckets
      (λ b low high. length-map {B = LaidNode} (pairs_at shape s map b) (λ p. record { structure = Bucket map b; key = p.0; value = p.1 }))
      ∙ sym (length-pieces (pairs_at shape s map) length (pairs_at shape s map) 0 shape.buckets (λ b low high. refl))
      ∙ sym (len-buckets shape (map_at s map))

  -- a map without pairs adds no node
  pub maps_same : (map : ℕ) → fin.len (map_at s map) ≡ 0 → maps_below shape (pairs_at shape s) (map + 1) ≡ maps_below shape (pairs_at shape s) map
  maps_same map none =
      let of = nodes_of_map shape (pairs_at shape s) in
      let before = nodes_of_maps shape (pairs_at shape s) map in
      ap (λ ns. dummies shape.queues ++ ns)
      (flat_map_range_more of map ∙ ap (λ ns. before ++ ns) (nil_from_length (of map) (map_count map ∙ none)) ∙ append-nil before)

  -- contents have as many nodes as they need
  pub nodes_count : length (laid_nodes shape s) ≡ needed s
  nodes_count =
      let maps = nodes_of_maps shape (pairs_at shape s) shape.maps in
      let queues = nodes_of_queues (queue_at s) shape.queues in
      let all = length-append (dummies shape.queues ++ maps) queues in
      let front = length-append (dummies shape.queues) maps in
      let few = length-map-range_with_len {X = LaidNode} (λ q. record { structure = Queue q; key = 0; value = 0 }) 0 shape.queues in
      let pairs = length-pieces (nodes_of_map shape (pairs_at shape s)) fin.len (map_at s) 0 shape.maps (λ map low high. map_count map) in
      let values = length-pieces (λ q. value_nodes q 1 (queue_at s q)) length (queue_at s) 0 shape.queues
      (λ q low high. length-value_nodes q 1 (queue_at s q)) in
      let tables = ap (sum_by fin.len) (fill_by_all (map_at s) s.maps shape.maps fin.empty numbers.maps (λ k below. refl)) in
      let lists = ap (sum_by length) (fill_by_all (queue_at s) s.queues shape.queues [] numbers.queues (λ k below. refl)) in
      omega (arith, all, front, few, pairs, values, tables, lists, numbers.queues)

  -- a field of them has these contents
  pub contents_are : (words : List ℕ) → IsLaid shape words (laid_nodes shape s) → StandFor shape (laid_nodes shape s) (pairs_at shape s) (queue_at s)
      → state_of_store (logical_words shape words) ≡ s
  contents_are words laid for =
      let w = logical_words shape words in
      let maps : s.maps ≡ maps_of w = fill_by_all (λ map. map_of_pairs (pairs_of_map w map)) s.maps shape.maps fin.empty numbers.maps (λ map m.
      sym (ap map_of_pairs (flat_map_same (λ b. pairs_from w (head_word shape map b)) (pairs_at shape s map) 0 shape.buckets
      (λ b low high. pairs_laid shape words (laid_nodes shape s) (pairs_at shape s) (queue_at s) laid for contents_sorted map b m (omega arith)))
      ∙ table-buckets shape (map_at s map))) in
      let queues : s.queues ≡ queue_lists w = fill_by_all (queue_values w) s.queues shape.queues [] numbers.queues (λ queue q.
      sym (values_laid shape words (laid_nodes shape s) (pairs_at shape s) (queue_at s) laid for contents_sorted queue q)) in
      sym (ap (λ (ms : List Table). record { maps = ms; queues = s.queues }) maps
      ∙ ap (λ (qs : List (List ℕ)). record { maps = maps_of w; queues = qs }) queues)
