-- A field whose nodes are laid is a store of the contents that the nodes stand for.
use Rattle.std.proofs.Common.{◌≡◌, ◌⊎◌, ℕ, zero, suc, ◌+◌, ◌<◌, ◌≤◌, cond, true, false, List, [], ◌∷◌, map as map_list, length, get_or, drop, refl, sym, ap, ◌∙◌, subst, inl, inr, ⊎_elim, Some, arith}
use Rattle.std.specs.List.{AllByRecursion, Contains}
use Rattle.std.specs.List.Sorted.{IsStrictlySortedBy}
use Rattle.std.specs.Ordering.{nat_cmp}
use Rattle.std.specs.Cmp.{ranked as nat_ranked}
use Rattle.std.specs.declared.cmp.Ordering.TheVariants.{Less}
use Rattle.std.specs.Map.{keys_of}
use Rattle.std.proofs.lemmas.List.{length-map, get_or_default}
use Rattle.md_words.specs.declared.shape.Shape.{Shape}
use Rattle.md_words.specs.Content.{value_of}
use Rattle.md_words.specs.Link.{linked_node}
use Rattle.md_words.specs.Layout.{Exists, IsNode, address, bucket_of, node_count}
use Rattle.md_machine.specs.declared.node.Structure.{Structure}
use Rattle.md_machine.specs.declared.node.Structure.TheVariants.{Bucket, Queue}
use Rattle.md_machine.specs.LogicalHeap.{LogicalWords, LogicalHeap, next_of}
use Rattle.md_machine.specs.Resolution.{structure_in}
use Rattle.md_machine.proofs.lists.Rising.{in_none, in_cons, here, there}
use Rattle.md_list_law.specs.Walk.{pairs_from, unmarked_pairs}
use Rattle.md_list_law.specs.ListShape.{head_word, IsIn, Names, NamesAbove, IsBucket}
use Rattle.md_list_law.proofs.Order.{after_above, onward_above}
use Rattle.md_hash_law.specs.HashTable.{IsBucketOf}
use Rattle.md_queue_law.specs.QueueShape.{head_of, IsOf, NamesOneOf, StandInLine, QueueShape}
use Rattle.md_queue_law.specs.QueueValues.{values_after, queue_values}
use Rattle.md_queue_law.specs.Laws.Words.{linked_node-link, linked_node-zero}
use Rattle.md_store_law.specs.Store.{IsStore, IsQueueOf}
use Rattle.md_store_law.specs.Field.{logical_words}
use Rattle.md_store_law.specs.Laid.{LaidNode, IsLaid, head_place, numbers_of, numbers_from, last_of, same_structure}
use Rattle.md_store_layout.proofs.Numbers.{IsNumberOf, placed_from, numbers_placed, placed_numbers, all_map, all_in}
use Rattle.md_store_layout.proofs.Chains.{Linked, pair_of, chained_linked, walk-linked, linked_unmarked, pairs-linked, values-linked, linked_next, linked_last, entries_of, entries_stand, value_of-naming}

-- values with their ranks
abbrev pub with_ranks : (first : ℕ) → List ℕ → List (ℕ × ℕ)
with_ranks first [] = []
with_ranks first (v ∷ vs) = (first, v) ∷ with_ranks (first + 1) vs

rank_of : (first : ℕ) (vs : List ℕ) (i : ℕ) → i < length vs → (get_or (with_ranks first vs) i (0, 0)).0 ≡ first + i
rank_of first [] i below = absurd (omega arith)
rank_of first (v ∷ vs) zero below = omega arith
rank_of first (v ∷ vs) (suc i) below = let e = rank_of (first + 1) vs i (omega arith) in omega (arith, e)

length-with_ranks : (first : ℕ) (vs : List ℕ) → length (with_ranks first vs) ≡ length vs
length-with_ranks first [] = refl
length-with_ranks first (v ∷ vs) = ap suc (length-with_ranks (first + 1) vs)

values-with_ranks : (first : ℕ) (vs : List ℕ) → map_list (λ (p : ℕ × ℕ). p.1) (with_ranks first vs) ≡ vs
values-with_ranks first [] = refl
values-with_ranks first (v ∷ vs) = ap (λ xs. v ∷ xs) (values-with_ranks (first + 1) vs)

-- an element of a mapped list, and one past a default
get_or-pairs : (w : LogicalWords) (xs : List ℕ) (i : ℕ) → i < length xs → get_or (map_list (pair_of w) xs) i (0, 0) ≡ pair_of w (get_or xs i 0)
get_or-pairs w [] i below = absurd (omega arith)
get_or-pairs w (x ∷ xs) zero below = refl
get_or-pairs w (x ∷ xs) (suc i) below = get_or-pairs w xs i (omega arith)

values-pairs : (w : LogicalWords) (xs : List ℕ) → map_list (λ (p : ℕ × ℕ). p.1) (map_list (pair_of w) xs) ≡ map_list w.value_of_node xs
values-pairs w [] = refl
values-pairs w (x ∷ xs) = ap (λ vs. w.value_of_node x ∷ vs) (values-pairs w xs)

contains_at : (xs : List ℕ) (i : ℕ) → i < length xs → Contains xs (get_or xs i 0)
contains_at xs i below = (i, below, sym (get_or_default xs i 0 (get_or xs i 0) below))

last_in : (before : ℕ) (xs : List ℕ) → 1 ≤ length xs → Contains xs (last_of before xs)
last_in before [] some = absurd (omega arith)
last_in before (x ∷ []) some = here x []
last_in before (x ∷ y ∷ xs) some = there x (y ∷ xs) (last_of y xs) (last_in x (y ∷ xs) (omega arith))

all_pairs_in : (P : ℕ × ℕ → Type 0) (w : LogicalWords) (xs : List ℕ) (x : ℕ) → AllByRecursion P (map_list (pair_of w) xs) → Contains xs x → P (pair_of w x)
all_pairs_in P w [] x all c = absurd (in_none x c)
all_pairs_in P w (y ∷ ys) x all c = ⊎_elim (λ e. subst (λ z. P (pair_of w z)) e all.0) (λ later. all_pairs_in P w ys x all.1 later) (in_cons y ys x c)

pub length-numbers : (k : ℕ) (nodes : List LaidNode) (s : Structure) → length (numbers_from k nodes s) ≤ length nodes
length-numbers k [] s = omega arith
length-numbers k (n ∷ nodes) s =
    let rest = length-numbers (k + 1) nodes s in
    elim (same_structure n.structure s) as (λ b. length (cond b (k ∷ numbers_from (k + 1) nodes s) (numbers_from (k + 1) nodes s)) ≤ suc (length nodes)) [
      | true ↦ omega arith
      | false ↦ omega arith
    ]

-- the contents that nodes stand for: pairs by map and bucket, and the values of each queue
pub record StandFor (shape : Shape) (nodes : List LaidNode) (pairs : ℕ → ℕ → List (ℕ × ℕ)) (values : ℕ → List ℕ) : Type 0 where
  pub room : length nodes ≤ shape.base
  pub inside : (node : ℕ) (s : Structure) → structure_in (placed_from 1 nodes) node ≡ Some s → Exists shape (head_place s)
  pub pairs_are : (map bucket : ℕ) → map < shape.maps → bucket < shape.buckets → entries_of nodes (Bucket map bucket) ≡ pairs map bucket
  pub values_are : (queue : ℕ) → queue < shape.queues → entries_of nodes (Queue queue) ≡ (0, 0) ∷ with_ranks 1 (values queue)

-- the keys of each bucket rise, and are of the bucket
pub record AreSorted (shape : Shape) (pairs : ℕ → ℕ → List (ℕ × ℕ)) : Type 0 where
  pub rise : (map bucket : ℕ) → map < shape.maps → bucket < shape.buckets → IsStrictlySortedBy nat_cmp (keys_of (pairs map bucket))
  pub home : (map bucket : ℕ) → map < shape.maps → bucket < shape.buckets → AllByRecursion (λ p. bucket_of shape p.0 ≡ bucket) (pairs map bucket)

module _ (shape : Shape) (words : List ℕ) (nodes : List LaidNode) (pairs : ℕ → ℕ → List (ℕ × ℕ)) (values : ℕ → List ℕ)
    (laid : IsLaid shape words nodes) (for : StandFor shape nodes pairs values) (sorted : AreSorted shape pairs) where
  abbrev w : LogicalWords
  w = logical_words shape words

  abbrev pub laid_heap : LogicalHeap
  laid_heap = record { words = w; placed = structure_in (placed_from 1 nodes) }

  is_number : (s : Structure) (x : ℕ) → IsIn laid_heap s x → IsNumberOf 1 nodes s x
  is_number s x e = all_in (IsNumberOf 1 nodes s) (numbers_of nodes s) x (numbers_placed 1 nodes s) (placed_numbers 1 nodes s x e)

  is_node : (s : Structure) (x : ℕ) → IsIn laid_heap s x → IsNode shape x
  unfolding node_count
  is_node s x e =
      let i = is_number s x e in
      let low = i.low in
      let high = i.high in
      let room = for.room in
      (low, omega arith)

  above_none : (s : Structure) → AllByRecursion (λ n. 1 ≤ n) (numbers_of nodes s)
  above_none s = all_map (numbers_of nodes s) (λ x i. i.low) (numbers_placed 1 nodes s)

  short : (s : Structure) → length (numbers_of nodes s) ≤ node_count shape
  unfolding node_count
  short s = let fits = length-numbers 1 nodes s in let room = for.room in omega arith

  linked : (s : Structure) → Exists shape (head_place s) → Linked w (w.value (address shape (head_place s))) (numbers_of nodes s)
  linked s there = chained_linked shape words (head_place s) (numbers_of nodes s) (laid.chains s there)

  entries : (s : Structure) → map_list (pair_of w) (numbers_of nodes s) ≡ entries_of nodes s
  entries s = entries_stand shape words 1 nodes s laid.fields

  -- what a chain's values name
  names_first : (s : Structure) (value : ℕ) (xs : List ℕ) → AllByRecursion (IsNumberOf 1 nodes s) xs → Linked w value xs → Names laid_heap s value
  names_first s value [] all l = inl (ap linked_node l ∙ linked_node-zero)
  names_first s value (x ∷ xs) all l = inr (subst (λ n. IsIn laid_heap s n) (sym (ap linked_node l.0 ∙ linked_node-link x)) all.0.placed)

  names_above : (s : Structure) (key value : ℕ) (xs : List ℕ) → AllByRecursion (IsNumberOf 1 nodes s) xs → Linked w value xs
      → AllByRecursion (λ y. nat_cmp key y ≡ Less) (keys_of (map_list (pair_of w) xs)) → NamesAbove laid_heap s key value
  names_above s key value [] all l more = inl (ap linked_node l ∙ linked_node-zero)
  names_above s key value (x ∷ xs) all l more = inr (subst (λ n. IsIn laid_heap s n × (key < w.key_of n)) (sym (ap linked_node l.0 ∙ linked_node-link x))
      (all.0.placed, less key (w.key_of x) more.0))
    where
      less : (a b : ℕ) → nat_cmp a b ≡ Less → a < b
      less a b e = nat_ranked a b Less (sym e)

  rises : (s : Structure) (value : ℕ) (xs : List ℕ) → AllByRecursion (IsNumberOf 1 nodes s) xs → Linked w value xs
      → IsStrictlySortedBy nat_cmp (keys_of (map_list (pair_of w) xs)) → (x : ℕ) → Contains xs x → NamesAbove laid_heap s (w.key_of x) (next_of w x)
  unfolding IsStrictlySortedBy
  rises s value [] all l rise x c = absurd (in_none x c)
  rises s value (y ∷ ys) all l rise x c = ⊎_elim
      (λ e. subst (λ n. NamesAbove laid_heap s (w.key_of n) (next_of w n)) e (names_above s (w.key_of y) (next_of w y) ys all.1 l.1 rise.0))
      (λ later. rises s (next_of w y) ys all.1 l.1 rise.1 x later)
      (in_cons y ys x c)

  module _ (map bucket : ℕ) (m : map < shape.maps) (b : bucket < shape.buckets) where
    abbrev s : Structure
    s = Bucket map bucket

    pairs_here : map_list (pair_of w) (numbers_of nodes s) ≡ pairs map bucket
    pairs_here = entries s ∙ for.pairs_are map bucket m b

    bucket_rises : (x : ℕ) → IsIn laid_heap s x → NamesAbove laid_heap s (w.key_of x) (next_of w x)
    bucket_rises x e = rises s (w.value (head_word shape map bucket)) (numbers_of nodes s) (numbers_placed 1 nodes s) (linked s (m, b))
        (subst (λ ps. IsStrictlySortedBy nat_cmp (keys_of ps)) (sym pairs_here) (sorted.rise map bucket m b)) x (placed_numbers 1 nodes s x e)

    bucket_is : IsBucket laid_heap map bucket
    bucket_is = record {
      list = record {
        nodes = is_node s;
        unmarked = linked_unmarked w (w.value (head_word shape map bucket)) (numbers_of nodes s) (linked s (m, b));
        first = names_first s (w.value (head_word shape map bucket)) (numbers_of nodes s) (numbers_placed 1 nodes s) (linked s (m, b));
        rises = λ x e. onward_above laid_heap s (w.key_of x) (next_of w x) (bucket_rises x e);
        rank = λ x. 0;
        ranks = λ x e. after_above laid_heap (λ y. 0) s x (next_of w x) (bucket_rises x e);
        reached = λ x e plain. subst (λ xs. Contains xs x)
            (sym (walk-linked w (node_count shape) (w.value (head_word shape map bucket)) (numbers_of nodes s) (short s) (above_none s) (linked s (m, b))))
            (placed_numbers 1 nodes s x e);
      };
      keys = λ x e. all_pairs_in (λ p. bucket_of shape p.0 ≡ bucket) w (numbers_of nodes s) x
          (subst (AllByRecursion (λ p. bucket_of shape p.0 ≡ bucket)) (sym pairs_here) (sorted.home map bucket m b)) (placed_numbers 1 nodes s x e);
    }

    -- the pairs of a bucket
    pub pairs_laid : pairs_from w (head_word shape map bucket) ≡ pairs map bucket
    pairs_laid =
        ap (unmarked_pairs w) (walk-linked w (node_count shape) (w.value (head_word shape map bucket)) (numbers_of nodes s) (short s) (above_none s) (linked s (m, b)))
        ∙ pairs-linked w (w.value (head_word shape map bucket)) (numbers_of nodes s) (linked s (m, b))
        ∙ pairs_here

  module _ (queue : ℕ) (below : queue < shape.queues) where
    abbrev t : Structure
    t = Queue queue

    abbrev xs : List ℕ
    xs = numbers_of nodes t

    ranks_here : map_list (pair_of w) xs ≡ (0, 0) ∷ with_ranks 1 (values queue)
    ranks_here = entries t ∙ for.values_are queue below

    count_is : length xs ≡ suc (length (values queue))
    count_is = sym (length-map xs (pair_of w)) ∙ ap length ranks_here ∙ ap suc (length-with_ranks 1 (values queue))

    rank_is : (rank : ℕ) → rank < length xs → w.key_of (get_or xs rank 0) ≡ rank
    rank_is rank inside =
        sym (ap (λ (p : ℕ × ℕ). p.0) (get_or-pairs w xs rank inside)) ∙ ap (λ (ps : List (ℕ × ℕ)). (get_or ps rank (0, 0)).0) ranks_here
        ∙ at rank (omega (arith, count_is))
      where
        at : (rank : ℕ) → rank < suc (length (values queue)) → (get_or ((0, 0) ∷ with_ranks 1 (values queue)) rank (0, 0)).0 ≡ rank
        at zero less = refl
        at (suc rank) less = rank_of 1 (values queue) rank (omega arith) ∙ omega arith

    placed_at : (rank : ℕ) → rank < length xs → IsOf laid_heap queue (get_or xs rank 0)
    placed_at rank inside = (all_in (IsNumberOf 1 nodes t) xs (get_or xs rank 0) (numbers_placed 1 nodes t) (contains_at xs rank inside)).placed

    ranked_is : (x : ℕ) → Contains xs x → (w.key_of x < length xs) × (get_or xs (w.key_of x) 0 ≡ x)
    ranked_is x (i, inside, e) =
        let at : get_or xs i 0 ≡ x = get_or_default xs i 0 x inside ∙ e in
        let key : w.key_of x ≡ i = ap w.key_of (sym at) ∙ rank_is i inside in
        (omega (arith, key), ap (λ k. get_or xs k 0) key ∙ at)

    line_is : StandInLine laid_heap queue (length xs) (λ rank. get_or xs rank 0)
    line_is = record {
      exist = is_node t;
      ranked = λ x e. ranked_is x (placed_numbers 1 nodes t x e);
      placed = λ rank inside. (placed_at rank inside, rank_is rank inside);
      next = λ rank inside. linked_next w (head_of w queue) xs rank inside (linked t below);
      last = λ rank is. linked_last w (head_of w queue) xs rank is (linked t below);
    }

    names_one : (value : ℕ) (ys : List ℕ) → 1 ≤ length ys → AllByRecursion (IsNumberOf 1 nodes t) ys → Linked w value ys → NamesOneOf laid_heap queue value
    names_one value [] some all l = absurd (omega arith)
    names_one value (y ∷ ys) some all l = (y, all.0.placed, l.0)

    queue_is : QueueShape laid_heap queue
    queue_is = record {
      count = length xs;
      node_of = λ rank. get_or xs rank 0;
      line = line_is;
      head = names_one (head_of w queue) xs (omega (arith, count_is)) (numbers_placed 1 nodes t) (linked t below);
      tail = (
        last_of 0 xs,
        (all_in (IsNumberOf 1 nodes t) xs (last_of 0 xs) (numbers_placed 1 nodes t) (last_in 0 xs (omega (arith, count_is)))).placed,
        ap value_of (laid.tails queue below) ∙ value_of-naming (last_of 0 xs),
      );
    }

    behind : (ys : List ℕ) → length ys ≤ node_count shape → AllByRecursion (λ n. 1 ≤ n) ys → Linked w (head_of w queue) ys
        → map_list (pair_of w) ys ≡ (0, 0) ∷ with_ranks 1 (values queue) → values_after w (node_count shape) (linked_node (head_of w queue)) ≡ values queue
    behind [] fits some l e = absurd (omega (arith, ap length e))
    behind (y ∷ ys) fits some l e =
        ap (values_after w (node_count shape)) (ap linked_node l.0 ∙ linked_node-link y)
        ∙ values-linked w (node_count shape) y ys (omega arith) some.1 l.1
        ∙ sym (values-pairs w ys) ∙ ap (λ ps. map_list (λ (p : ℕ × ℕ). p.1) (drop 1 ps)) e ∙ values-with_ranks 1 (values queue)

    -- the values of a queue
    pub values_laid : queue_values w queue ≡ values queue
    values_laid = behind xs (short t) (above_none t) (linked t below) ranks_here

  alone : (x : ℕ) (s : Structure) → laid_heap.placed x ≡ Some s → IsBucketOf shape s ⊎ IsQueueOf shape s
  alone x (Bucket map bucket) e = let there = for.inside x (Bucket map bucket) e in inl (map, bucket, there.0, there.1, refl)
  alone x (Queue queue) e = let there = for.inside x (Queue queue) e in inr (queue, there, refl)

  -- the field is a store
  pub laid_store : IsStore laid_heap
  laid_store = record { buckets = bucket_is; queues = queue_is; alone = alone }
