-- How far a walk along a bucket has come: what it has read, and what is left.
use Rattle.std.proofs.Common.{◌≡◌, ◌≢◌, ℕ, suc, ◌<◌, ◌%◌, ◌++◌, true, false, List, [], ◌∷◌, refl, sym, ap, ◌∙◌, subst, ⊎_elim, Option, arith}
use Rattle.std.proofs.lemmas.Bool.{cond-true, cond-false, eq-eqb, ne_eqb}
use Rattle.std.proofs.lemmas.List.{append-nil, append_assoc}
use Rattle.std.proofs.Math.Nat.{mod-eq_of_lt}
use Rattle.md_words.specs.declared.shape.Shape.{Shape}
use Rattle.md_words.specs.Link.{linked_node, is_marked}
use Rattle.md_words.specs.Layout.{IsNode, node_count, bucket_of}
use Rattle.md_machine.specs.declared.node.Structure.{Structure}
use Rattle.md_machine.specs.declared.node.Structure.TheVariants.{Bucket}
use Rattle.md_machine.specs.LogicalHeap.{LogicalHeap, next_of}
use Rattle.md_list_law.specs.Walk.{walk, unmarked_pairs, pairs_from}
use Rattle.md_list_law.specs.ListShape.{head_word, IsIn, Names}
use Rattle.md_list_law.proofs.Walks.{walk-none, walk-some}
use Rattle.md_list_law.proofs.Order.{onward_names}
use Rattle.md_store_law.specs.Field.{logical_words, IsStoreWith, IsStoreField}

-- a number of a bucket is its own bucket
pub bucket_of_number : (shape : Shape) (bucket : ℕ) → bucket < shape.buckets → bucket_of shape bucket ≡ bucket
unfolding bucket_of
bucket_of_number shape bucket below = mod-eq_of_lt below

-- a value is marked if it is odd
pub is_marked-odd : (value : ℕ) → value % 2 ≢ 0 → is_marked value ≡ true
unfolding is_marked
is_marked-odd value odd = eq-eqb (value % 2) 1 (omega arith)

pub is_marked-even : (value : ℕ) → value % 2 ≡ 0 → is_marked value ≡ false
unfolding is_marked
is_marked-even value even = ne_eqb (value % 2) 1 (omega arith)

module _ (shape : Shape) (words : List ℕ) where
  -- the heap of these words, with these nodes placed
  abbrev pub heap_with : (ℕ → Option Structure) → LogicalHeap
  heap_with placed = record { words = logical_words shape words; placed = placed }

  -- a walk along a bucket has come to a value, has read these pairs, and has so many steps left
  pub record WalksPairs (map bucket : ℕ) (start now : List (ℕ × ℕ)) (left value : ℕ) : Type 0 where
    pub names : (placed : ℕ → Option Structure) → IsStoreWith shape words placed → Names (heap_with placed) (Bucket map bucket) value
    pub rest : now ++ unmarked_pairs (logical_words shape words) (walk (logical_words shape words) left value)
        ≡ start ++ pairs_from (logical_words shape words) (head_word shape map bucket)

  -- the same at equal lists and numbers
  pub pairs_moved : (map bucket : ℕ) (start now then : List (ℕ × ℕ)) (left less value next : ℕ) → then ≡ now → less ≡ left → next ≡ value
      → WalksPairs map bucket start now left value → WalksPairs map bucket start then less next
  pairs_moved map bucket start now then left less value next e f g w = subst (λ ps. WalksPairs map bucket start ps less next) (sym e)
      (subst (λ n. WalksPairs map bucket start now n next) (sym f) (subst (λ v. WalksPairs map bucket start now left v) (sym g) w))

  module _ (map bucket : ℕ) (m : map < shape.maps) (b : bucket < shape.buckets) (start : List (ℕ × ℕ)) where
    pub pairs_begin : WalksPairs map bucket start start (node_count shape) ((logical_words shape words).value (head_word shape map bucket))
    pairs_begin = record { names = λ placed store. (store.buckets map bucket m b).list.first; rest = refl }

    -- the node that the value names is one of the bucket
    pairs_in : (now : List (ℕ × ℕ)) (left value : ℕ) → WalksPairs map bucket start now left value → linked_node value ≢ 0
        → (placed : ℕ → Option Structure) → IsStoreWith shape words placed → IsIn (heap_with placed) (Bucket map bucket) (linked_node value)
    pairs_in now left value w some placed store = ⊎_elim (λ none. absurd (some none)) (λ i. i) (w.names placed store)

    pub pairs_node : (now : List (ℕ × ℕ)) (left value : ℕ) → WalksPairs map bucket start now left value → linked_node value ≢ 0
        → IsStoreField shape words → IsNode shape (linked_node value)
    pairs_node now left value w some f = (f.store.buckets map bucket m b).list.nodes (linked_node value) (pairs_in now left value w some f.placed f.store)

    onward : (now : List (ℕ × ℕ)) (left value : ℕ) → WalksPairs map bucket start now left value → linked_node value ≢ 0
        → (placed : ℕ → Option Structure) → IsStoreWith shape words placed
        → Names (heap_with placed) (Bucket map bucket) (next_of (logical_words shape words) (linked_node value))
    onward now left value w some placed store =
        let list = (store.buckets map bucket m b).list in
        onward_names (heap_with placed) (Bucket map bucket) _ _
        (list.rises (linked_node value) (pairs_in now left value w some placed store))

    -- a step over a removed node, and one over any other
    pub pairs_over : (now : List (ℕ × ℕ)) (left value : ℕ) → WalksPairs map bucket start now (suc left) value → linked_node value ≢ 0
        → is_marked (next_of (logical_words shape words) (linked_node value)) ≡ true
        → WalksPairs map bucket start now left (next_of (logical_words shape words) (linked_node value))
    pairs_over now left value w some marked =
        let ws = logical_words shape words in
        record {
          names = onward now (suc left) value w some;
          rest = ap (λ ps. now ++ ps) (sym (ap (unmarked_pairs ws) (walk-some ws left value some)
              ∙ cond-true (is_marked (next_of ws (linked_node value))) _ _ marked))
              ∙ w.rest;
        }

    pub pairs_on : (now : List (ℕ × ℕ)) (left value : ℕ) → WalksPairs map bucket start now (suc left) value → linked_node value ≢ 0
        → is_marked (next_of (logical_words shape words) (linked_node value)) ≡ false
        → let ws = logical_words shape words in
        WalksPairs map bucket start (now ++ (ws.key_of (linked_node value), ws.value_of_node (linked_node value)) ∷ []) left (next_of ws (linked_node value))
    pairs_on now left value w some plain =
        let ws = logical_words shape words in
        record {
          names = onward now (suc left) value w some;
          rest = append_assoc now ((ws.key_of (linked_node value), ws.value_of_node (linked_node value)) ∷ []) _
              ∙ ap (λ ps. now ++ ps) (sym (ap (unmarked_pairs ws) (walk-some ws left value some)
              ∙ cond-false (is_marked (next_of ws (linked_node value))) _ _ plain))
              ∙ w.rest;
        }

    -- the end, where no node is named or no step is left
    pub pairs_none : (now : List (ℕ × ℕ)) (left value : ℕ) → WalksPairs map bucket start now left value → linked_node value ≡ 0
        → now ≡ start ++ pairs_from (logical_words shape words) (head_word shape map bucket)
    pairs_none now left value w none =
        let ws = logical_words shape words in
        sym (append-nil now) ∙ ap (λ ps. now ++ ps) (sym (ap (unmarked_pairs ws) (walk-none ws left value none))) ∙ w.rest

    pub pairs_all : (now : List (ℕ × ℕ)) (left value : ℕ) → WalksPairs map bucket start now left value → left ≡ 0
        → now ≡ start ++ pairs_from (logical_words shape words) (head_word shape map bucket)
    pairs_all now left value w none =
        let ws = logical_words shape words in
        sym (append-nil now) ∙ ap (λ n. now ++ unmarked_pairs ws (walk ws n value)) (sym none) ∙ w.rest
