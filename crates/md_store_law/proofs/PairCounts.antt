-- The pairs of a store: along a bucket their keys rise, and a key is of its bucket alone. So a map has as many keys as its
-- buckets have pairs.
use Rattle.std.proofs.Common.{◌≡◌, ◌≢◌, ℕ, zero, suc, ◌+◌, ◌<◌, ◌≤◌, ◌++◌, List, [], ◌∷◌, length, length-append, map as map_list, take, Some, None, refl, sym, ap, ◌∙◌, subst, ⊎_elim, arith}
use Rattle.std.specs.List.{flat_map, range_with_len, sum_by, AllByRecursion}
use Rattle.std.specs.List.Sorted.{IsStrictlySortedBy}
use Rattle.std.specs.Ordering.{nat_cmp}
use Rattle.std.specs.declared.cmp.Ordering.TheVariants.{Less}
use Rattle.std.specs.Cmp.{nat_cmp_is}
use Rattle.std.specs.Map.{keys_of}
use Rattle.std.specs.FinMap as fin
use Rattle.std.proofs.lemmas.Bool.{cases_eq, cases_Bool, cond-true, cond-false}
use Rattle.std.proofs.lemmas.List.{map-id}
use Rattle.std.proofs.lemmas.List.Folds.{length-flat_map-take}
use Rattle.std.proofs.lemmas.List.FromFn.{take-map-range_with_len, length-range_with_len, get_or-range_with_len}
use Rattle.std.proofs.lemmas.List.Sums.{sum_by-cons}
use Rattle.md_words.specs.declared.shape.Shape.{Shape}
use Rattle.md_words.specs.Link.{linked_node, is_marked}
use Rattle.md_words.specs.Layout.{bucket_of, node_count}
use Rattle.md_machine.specs.declared.node.Structure.{Structure}
use Rattle.md_machine.specs.declared.node.Structure.TheVariants.{Bucket}
use Rattle.md_machine.specs.LogicalHeap.{LogicalHeap, next_of}
use Rattle.md_history.specs.Contents.{table_of_pairs}
use Rattle.md_list_law.specs.Walk.{walk, unmarked_pairs, pairs_from, map_of_pairs}
use Rattle.md_list_law.specs.ListShape.{head_word, IsIn, Names, NamesAbove}
use Rattle.md_list_law.proofs.Walks.{walk-none, walk-some}
use Rattle.md_list_law.proofs.Keys.{find-here, find-further, none_unless}
use Rattle.md_list_law.proofs.Chains.{Rises}
use Rattle.md_list_law.proofs.Order.{above_onward, above_unmarked, onward_names}
use Rattle.md_list_law.proofs.Pairs.{rises_of, found-pair}
use Rattle.md_hash_law.specs.HashTable.{pairs_of_map}
use Rattle.md_store_law.specs.Field.{logical_words, IsStoreField}
use Rattle.md_store_law.proofs.Sums.{KeysApart, apart_sorted, len-apart, from_entries-reverse}

-- a key that two lists lack, their joint list lacks
lacks-append : (q : ℕ) (xs ys : List (ℕ × ℕ)) → fin.find nat_cmp q xs ≡ None → fin.find nat_cmp q ys ≡ None → fin.find nat_cmp q (xs ++ ys) ≡ None
lacks-append q [] ys none also = also
lacks-append q (x ∷ xs) ys none also = ⊎_elim
    (λ same. absurd (some_none x.1 (sym (find-here q x.0 x.1 xs same) ∙ none)))
    (λ other. find-further q x.0 x.1 (xs ++ ys) other ∙ lacks-append q xs ys (sym (find-further q x.0 x.1 xs other) ∙ none) also)
    (cases_eq q x.0)
  where
    some_none : (v : ℕ) → Some v ≡ None → ⊥
    some_none v e = cc e

pub lacks-pieces : (f : ℕ → List (ℕ × ℕ)) (q a n : ℕ) → ((b : ℕ) → a ≤ b → b < a + n → fin.find nat_cmp q (f b) ≡ None)
    → fin.find nat_cmp q (flat_map f (range_with_len a n)) ≡ None
lacks-pieces f q a zero none = refl
lacks-pieces f q a (suc n) none = lacks-append q (f a) (flat_map f (range_with_len (a + 1) n)) (none a (omega arith) (omega arith))
    (lacks-pieces f q (a + 1) n (λ b low high. none b (omega (arith, low)) (omega (arith, high))))

-- pairs whose keys are apart, after others that have none of their keys
apart-append : (xs ys : List (ℕ × ℕ)) → KeysApart xs → KeysApart ys
    → ((q v : ℕ) → fin.find nat_cmp q xs ≡ Some v → fin.find nat_cmp q ys ≡ None) → KeysApart (xs ++ ys)
apart-append [] ys a b none = b
apart-append (x ∷ xs) ys a b none = (
  lacks-append x.0 xs ys a.0 (none x.0 x.1 (find-here x.0 x.0 x.1 xs refl)),
  apart-append xs ys a.1 b (λ q v e. ⊎_elim
      (λ same. none q x.1 (find-here q x.0 x.1 xs same))
      (λ other. none q v (find-further q x.0 x.1 xs other ∙ e))
      (cases_eq q x.0)),
)

-- what holds of the keys that are found, holds of all
all_from_find : (P : ℕ → Type 0) (es : List (ℕ × ℕ)) → KeysApart es → ((q v : ℕ) → fin.find nat_cmp q es ≡ Some v → P q)
    → AllByRecursion (λ (p : ℕ × ℕ). P p.0) es
all_from_find P [] apart found = tt
all_from_find P (e ∷ es) apart found = (
  found e.0 e.1 (find-here e.0 e.0 e.1 es refl),
  all_from_find P es apart.1 (λ q v is. found q v (find-further q e.0 e.1 es
      (λ same. none_some v (sym apart.0 ∙ ap (λ k. fin.find nat_cmp k es) (sym same) ∙ is)) ∙ is)),
)
  where
    none_some : (v : ℕ) → None ≡ Some v → ⊥
    none_some v none = cc none

-- pieces whose keys are apart, each key at home in one piece
module _ (f : ℕ → List (ℕ × ℕ)) (home : ℕ → ℕ) where
  pub apart-pieces : (a n : ℕ) → ((b : ℕ) → a ≤ b → b < a + n → KeysApart (f b))
      → ((b q v : ℕ) → a ≤ b → b < a + n → fin.find nat_cmp q (f b) ≡ Some v → home q ≡ b)
      → KeysApart (flat_map f (range_with_len a n))
  apart-pieces a zero apart at = tt
  apart-pieces a (suc n) apart at = apart-append (f a) (flat_map f (range_with_len (a + 1) n)) (apart a (omega arith) (omega arith))
      (apart-pieces (a + 1) n (λ b low high. apart b (omega (arith, low)) (omega (arith, high))) (λ b q v low high. at b q v (omega (arith, low)) (omega (arith, high))))
      (λ q v e. lacks-pieces f q (a + 1) n (λ b low high. none_unless _ (λ u found.
      let here = at a q v (omega arith) (omega arith) e in
      let there = at b q u (omega (arith, low)) (omega (arith, high)) found in
      omega (arith, here, there, low))))

-- keys along a walk through a list
module _ (h : LogicalHeap) (list : Structure) (r : Rises h list) where
  less : (key other : ℕ) → key < other → nat_cmp key other ≡ Less
  less key other below = sym (nat_cmp_is key other Less below)

  named : (value : ℕ) → Names h list value → linked_node value ≢ 0 → IsIn h list (linked_node value)
  named value names some = ⊎_elim (λ none. absurd (some none)) (λ i. i) names

  -- those past a key are above it
  above : (n key value : ℕ) → NamesAbove h list key value
      → AllByRecursion (λ y. nat_cmp key y ≡ Less) (keys_of (unmarked_pairs h.words (walk h.words n value)))
  above zero key value names = tt
  above (suc n) key value names = ⊎_elim
      (λ none. subst (λ nodes. AllByRecursion (λ y. nat_cmp key y ≡ Less) (keys_of (unmarked_pairs h.words nodes)))
      (sym (walk-none h.words (suc n) value none)) tt)
      (λ t. ⊎_elim
      (λ none. subst (λ nodes. AllByRecursion (λ y. nat_cmp key y ≡ Less) (keys_of (unmarked_pairs h.words nodes)))
      (sym (walk-none h.words (suc n) value none)) tt)
      (λ some.
      let node = linked_node value in
      let rest = walk h.words n (next_of h.words node) in
      let onward = above n key (next_of h.words node) (above_onward h list (h.words.key_of node) (next_of h.words node) key t.1 (r.rises node t.0)) in
      subst (λ nodes. AllByRecursion (λ y. nat_cmp key y ≡ Less) (keys_of (unmarked_pairs h.words nodes))) (sym (walk-some h.words n value some))
      (⊎_elim
      (λ marked. subst (λ ps. AllByRecursion (λ y. nat_cmp key y ≡ Less) (keys_of ps)) (sym (cond-true (is_marked (next_of h.words node)) _ _ marked)) onward)
      (λ plain. subst (λ ps. AllByRecursion (λ y. nat_cmp key y ≡ Less) (keys_of ps)) (sym (cond-false (is_marked (next_of h.words node)) _ _ plain)) (less key (h.words.key_of node) t.1, onward))
      (cases_Bool (is_marked (next_of h.words node)))))
      (cases_eq (linked_node value) 0))
      names

  rising : (n value : ℕ) → Names h list value → IsStrictlySortedBy nat_cmp (keys_of (unmarked_pairs h.words (walk h.words n value)))
  unfolding IsStrictlySortedBy
  rising zero value names = tt
  rising (suc n) value names = ⊎_elim
      (λ none. subst (λ nodes. IsStrictlySortedBy nat_cmp (keys_of (unmarked_pairs h.words nodes))) (sym (walk-none h.words (suc n) value none)) tt)
      (λ some.
      let node = linked_node value in
      let rest = walk h.words n (next_of h.words node) in
      let on = r.rises node (named value names some) in
      let onward = rising n (next_of h.words node) (onward_names h list _ _ on) in
      subst (λ nodes. IsStrictlySortedBy nat_cmp (keys_of (unmarked_pairs h.words nodes))) (sym (walk-some h.words n value some))
      (⊎_elim
      (λ marked. subst (λ (ps : List (ℕ × ℕ)). IsStrictlySortedBy nat_cmp (keys_of ps)) (sym (cond-true (is_marked (next_of h.words node)) _ _ marked)) onward)
      (λ plain. subst (λ (ps : List (ℕ × ℕ)). IsStrictlySortedBy nat_cmp (keys_of ps)) (sym (cond-false (is_marked (next_of h.words node)) _ _ plain))
      (above n (h.words.key_of node) (next_of h.words node) (above_unmarked h list _ _ plain on), onward))
      (cases_Bool (is_marked (next_of h.words node)))))
      (cases_eq (linked_node value) 0)

module _ (shape : Shape) (words : List ℕ) (f : IsStoreField shape words) (map : ℕ) (m : map < shape.maps) where
  abbrev h : LogicalHeap
  h = record { words = logical_words shape words; placed = f.placed }

  -- the keys of a bucket rise
  pub keys_rise : (bucket : ℕ) → bucket < shape.buckets → IsStrictlySortedBy nat_cmp (keys_of (pairs_from (logical_words shape words) (head_word shape map bucket)))
  keys_rise bucket b =
      let list = (f.store.buckets map bucket m b).list in
      rising h (Bucket map bucket) (rises_of h (Bucket map bucket) (head_word shape map bucket) list) (node_count shape) _ list.first

  -- and are the bucket's
  pub key_home : (bucket q v : ℕ) → bucket < shape.buckets
      → fin.find nat_cmp q (pairs_from (logical_words shape words) (head_word shape map bucket)) ≡ Some v → bucket_of shape q ≡ bucket
  key_home bucket q v b e =
      let is = f.store.buckets map bucket m b in
      let p = found-pair h (Bucket map bucket) (head_word shape map bucket) is.list q v e in
      sym (ap (bucket_of shape) p.has_key) ∙ is.keys p.node p.is_in

  pub keys_home : (home : ℕ → ℕ) → ((q : ℕ) → home q ≡ bucket_of shape q) → (bucket : ℕ) → bucket < shape.buckets
      → AllByRecursion (λ (p : ℕ × ℕ). home p.0 ≡ bucket) (pairs_from (logical_words shape words) (head_word shape map bucket))
  keys_home home same bucket b = all_from_find (λ q. home q ≡ bucket) _ (apart_sorted _ (keys_rise bucket b))
      (λ q v e. same q ∙ key_home bucket q v b e)

  -- the keys of a map differ
  keys_apart : KeysApart (pairs_of_map (logical_words shape words) map)
  keys_apart = apart-pieces (λ bucket. pairs_from (logical_words shape words) (head_word shape map bucket)) (bucket_of shape) 0 shape.buckets
      (λ b low high. apart_sorted _ (keys_rise b (omega (arith, high))))
      (λ b q v low high e. key_home b q v (omega (arith, high)) e)

  -- a map has as many keys as there are pairs
  pub len-map : fin.len (map_of_pairs (pairs_of_map (logical_words shape words) map)) ≡ length (pairs_of_map (logical_words shape words) map)
  len-map = len-apart _ keys_apart

  -- and its pairs make it in either order
  pub table-pairs : table_of_pairs (pairs_of_map (logical_words shape words) map) ≡ map_of_pairs (pairs_of_map (logical_words shape words) map)
  table-pairs = from_entries-reverse _ keys_apart

-- the first numbers of a range
take-range : (k n : ℕ) → k ≤ n → take k (range_with_len 0 n) ≡ range_with_len 0 k
take-range k n below = ap (take k) (sym (map-id (range_with_len 0 n))) ∙ take-map-range_with_len (λ j. j) 0 n k below ∙ map-id (range_with_len 0 k)

-- pieces up to one, and that one, are no longer than all
pub pieces_fit : {X : Type 0} (f : ℕ → List X) (k n : ℕ) → k < n
    → length (flat_map f (range_with_len 0 k)) + length (f k) ≤ length (flat_map f (range_with_len 0 n))
pieces_fit f k n below =
    let fits = length-flat_map-take f (range_with_len 0 n) k 0 (omega (arith, length-range_with_len 0 n)) in
    let first = ap (λ xs. length (flat_map f xs)) (take-range k n (omega arith)) in
    let this = ap (λ j. length (f j)) (get_or-range_with_len 0 n k 0 below ∙ zero_plus) in
    omega (arith, fits, first, this)
  where
    zero_plus : 0 + k ≡ k
    zero_plus = omega arith

-- pieces are as long as the sum of their lengths
pub length-pieces : {X A : Type 0} (f : ℕ → List X) (g : A → ℕ) (t : ℕ → A) (a n : ℕ) → ((b : ℕ) → a ≤ b → b < a + n → length (f b) ≡ g (t b))
    → length (flat_map f (range_with_len a n)) ≡ sum_by g (map_list t (range_with_len a n))
length-pieces f g t a zero each = refl
length-pieces f g t a (suc n) each =
    let all = length-append (f a) (flat_map f (range_with_len (a + 1) n)) in
    let sum = sum_by-cons g (t a) (map_list t (range_with_len (a + 1) n)) in
    let first = each a (omega arith) (omega arith) in
    let rest = length-pieces f g t (a + 1) n (λ b low high. each b (omega (arith, low)) (omega (arith, high))) in
    omega (arith, all, sum, first, rest)
