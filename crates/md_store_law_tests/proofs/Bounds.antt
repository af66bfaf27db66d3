-- A field's contents need no more nodes than its buckets and queues could reach.
use Rattle.std.proofs.Common.{◌≡◌, ℕ, zero, suc, ◌+◌, ◌*◌, ◌<◌, ◌≤◌, cond, true, false, List, [], ◌∷◌, length, map as map_list, eqb, refl, arith}
use Rattle.std.specs.List.{sum_by, range_with_len}
use Rattle.std.specs.FinMap as fin
use Rattle.std.proofs.lemmas.List.FromFn.{length-map-range_with_len}
use Rattle.std.proofs.lemmas.List.Sums.{sum_by-cons}
use Rattle.md_words.specs.declared.shape.Shape.{Shape}
use Rattle.md_words.specs.Link.{linked_node, is_marked}
use Rattle.md_words.specs.Layout.{HasNumbers, node_count}
use Rattle.md_words.specs.Limits.{count_of_words}
use Rattle.md_history.specs.State.{Table}
use Rattle.md_machine.specs.LogicalHeap.{LogicalWords, next_of}
use Rattle.md_list_law.specs.Walk.{walk, unmarked_pairs, map_of_pairs}
use Rattle.md_list_law.specs.ListShape.{head_word}
use Rattle.md_hash_law.specs.HashTable.{pairs_of_map}
use Rattle.md_queue_law.specs.QueueValues.{values_after, node_after}
use Rattle.md_queue_law.specs.QueueShape.{head_of}
use Rattle.md_history.specs.Engine.{needed}
use Rattle.md_store_law.specs.Field.{logical_words, IsStoreField}
use Rattle.md_store_law.specs.Compacted.{MayHaveBase, contents_of, pairs_in, values_in}
use Rattle.md_store_law.proofs.PairCounts.{length-pieces, len-map}
use Rattle.md_store_law_tests.proofs.RowPlaces.{nodes_are}

walk_short : (w : LogicalWords) (n value : ℕ) → length (walk w n value) ≤ n
walk_short w zero value = omega arith
walk_short w (suc n) value = let rest = walk_short w n (next_of w (linked_node value)) in
    elim (eqb (linked_node value) 0) as (λ b. length (cond b [] (linked_node value ∷ walk w n (next_of w (linked_node value)))) ≤ suc n) [
      | true ↦ omega arith
      | false ↦ omega (arith, rest)
    ]

pairs_few : (w : LogicalWords) (ns : List ℕ) → length (unmarked_pairs w ns) ≤ length ns
pairs_few w [] = omega arith
pairs_few w (n ∷ ns) = let rest = pairs_few w ns in
    elim (is_marked (next_of w n)) as (λ b. length (cond b (unmarked_pairs w ns) ((w.key_of n, w.value_of_node n) ∷ unmarked_pairs w ns)) ≤ length (n ∷ ns)) [
      | true ↦ omega (arith, rest)
      | false ↦ omega (arith, rest)
    ]

values_few : (w : LogicalWords) (most node : ℕ) → length (values_after w most node) ≤ most
values_few w zero node = omega arith
values_few w (suc most) node = let rest = values_few w most (node_after w node) in
    elim (eqb (next_of w node) 0) as (λ b. length (cond b [] (w.value_of_node (node_after w node) ∷ values_after w most (node_after w node))) ≤ suc most) [
      | true ↦ omega arith
      | false ↦ omega (arith, rest)
    ]

-- a sum of numbers each of which is at most so many
sum_short : {A : Type 0} (g : A → ℕ) (t : ℕ → A) (m a n : ℕ) → ((b : ℕ) → a ≤ b → b < a + n → g (t b) ≤ m) → sum_by g (map_list t (range_with_len a n)) ≤ n * m
sum_short g t m a zero each = omega arith
sum_short g t m a (suc n) each =
    let sum = sum_by-cons g (t a) (map_list t (range_with_len (a + 1) n)) in
    let first = each a (omega arith) (omega arith) in
    let rest = sum_short g t m (a + 1) n (λ b low high. each b (omega (arith, low)) (omega (arith, high))) in
    let more : suc n * m ≡ m + n * m = omega arith in
    omega (arith, sum, first, rest, more)

pub few_nodes : (shape : Shape) (words : List ℕ) → IsStoreField shape words
    → needed (contents_of shape words) ≤ shape.queues + shape.maps * (shape.buckets * node_count shape) + shape.queues * node_count shape
few_nodes shape words f =
    let w = logical_words shape words in
    let table : ℕ → Table = λ map. map_of_pairs (pairs_of_map w map) in
    let lists = length-map-range_with_len (values_in shape words) 0 shape.queues in
    let maps = sum_short fin.len table (shape.buckets * node_count shape) 0 shape.maps (λ map low high. map_short map (omega (arith, high))) in
    let queues = sum_short length (values_in shape words) (node_count shape) 0 shape.queues (λ queue low high. values_few w (node_count shape) (linked_node (head_of w queue))) in
    omega (arith, lists, maps, queues)
  where
    bucket_short : (map bucket : ℕ) → length (pairs_in shape words map bucket) ≤ node_count shape
    bucket_short map bucket =
        let w = logical_words shape words in
        let head = w.value (head_word shape map bucket) in
        let few = pairs_few w (walk w (node_count shape) head) in
        let short = walk_short w (node_count shape) head in
        omega (arith, few, short)

    map_short : (map : ℕ) → map < shape.maps → fin.len (map_of_pairs (pairs_of_map (logical_words shape words) map)) ≤ shape.buckets * node_count shape
    map_short map m =
        let is = len-map shape words f map m in
        let sum = length-pieces (pairs_in shape words map) length (pairs_in shape words map) 0 shape.buckets (λ b low high. refl) in
        let short = sum_short length (pairs_in shape words map) (node_count shape) 0 shape.buckets (λ b low high. bucket_short map b) in
        omega (arith, is, sum, short)

size_with : (shape : Shape) → HasNumbers shape 2 16 3 4 1 64 1 → (base : ℕ)
    → count_of_words shape.lanes shape.nodes base shape.maps shape.buckets shape.queues ≡ 1445 + 3 * base
size_with shape n base = rw (n.0, n.1, n.4, n.5, n.6) (omega arith)

-- so a field of the small shape may be laid anew, whatever it holds
pub may_have_few : (shape : Shape) (words : List ℕ) → HasNumbers shape 2 16 3 4 1 64 1 → IsStoreField shape words
    → MayHaveBase shape (needed (contents_of shape words))
may_have_few shape words n f =
    let count = needed (contents_of shape words) in
    let few = few_nodes shape words f in
    let most : shape.queues + shape.maps * (shape.buckets * node_count shape) + shape.queues * node_count shape ≡ 2276 =
    rw (nodes_are shape n, n.4, n.5, n.6) refl in
    let size = size_with shape n count in
    let is = shape.in_range in
    record {
      in_range = record {
        lanes_fit = is.lanes_fit;
        nodes_fit = is.nodes_fit;
        base_fits = omega (arith, few, most);
        tries_fit = is.tries_fit;
        maps_fit = is.maps_fit;
        buckets_fit = is.buckets_fit;
        queues_fit = is.queues_fit;
      };
      fits = omega (arith, few, most, size);
    }
