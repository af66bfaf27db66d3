-- What a chain of a laid field is, walked along: its numbers, its pairs, its values.
use Rattle.std.proofs.Common.{◌≡◌, ◌≢◌, ℕ, zero, suc, ◌+◌, ◌<◌, ◌≤◌, cond, true, false, List, [], ◌∷◌, map as map_list, length, get_or, refl, sym, ap, ◌∙◌, arith}
use Rattle.std.specs.List.{AllByRecursion}
use Rattle.std.proofs.lemmas.Bool.{cond-false}
use Rattle.md_words.specs.declared.shape.Shape.{Shape}
use Rattle.md_words.specs.Content.{value_of}
use Rattle.md_words.specs.Link.{linked_node, is_marked, link_value}
use Rattle.md_words.specs.Place.{Place, node_next}
use Rattle.md_words.specs.Layout.{address}
use Rattle.md_words.proofs.Words.{value_of-counted_word, is_marked-link_value}
use Rattle.md_machine.specs.declared.node.Structure.{Structure}
use Rattle.md_machine.specs.LogicalHeap.{LogicalWords, next_of}
use Rattle.md_list_law.specs.Walk.{walk, unmarked_pairs}
use Rattle.md_list_law.proofs.Walks.{walk-none, walk-some}
use Rattle.md_queue_law.specs.QueueShape.{link}
use Rattle.md_queue_law.specs.QueueValues.{values_after}
use Rattle.md_queue_law.specs.Laws.Walk.{walk_ends, walk_goes}
use Rattle.md_queue_law.specs.Laws.Words.{linked_node-link, linked_node-zero}
use Rattle.md_store_law.specs.Field.{logical_words}
use Rattle.md_store_law.specs.Laid.{LaidNode, Chained, HaveFields, numbers_from, naming, same_structure}

-- the value of a word that names a node, and of 0
pub value_of-naming : (node : ℕ) → value_of (naming node) ≡ link node
value_of-naming node = value_of-counted_word (link_value node false) 0 (omega arith)

pub value_of-zero : value_of 0 ≡ 0
unfolding value_of
value_of-zero = refl

pub unmarked-zero : is_marked 0 ≡ false
unfolding is_marked
unmarked-zero = refl

pub link_some : (node : ℕ) → 1 ≤ node → link node ≢ 0
link_some node low e = let zero_is : node ≡ 0 = sym (linked_node-link node) ∙ ap linked_node e ∙ linked_node-zero in omega arith

-- a value names the first of these nodes, and so on
abbrev pub Linked : LogicalWords → (value : ℕ) → List ℕ → Type 0
Linked w value [] = value ≡ 0
Linked w value (n ∷ ns) = (value ≡ link n) × Linked w (next_of w n) ns

pub chained_linked : (shape : Shape) (words : List ℕ) (place : Place) (ns : List ℕ) → Chained shape words place ns
    → Linked (logical_words shape words) ((logical_words shape words).value (address shape place)) ns
chained_linked shape words place [] c = ap value_of c ∙ value_of-zero
chained_linked shape words place (n ∷ ns) c = (ap value_of c.0 ∙ value_of-naming n, chained_linked shape words (node_next n) ns c.1)

-- a key and a value
abbrev pub pair_of : LogicalWords → ℕ → ℕ × ℕ
pair_of w node = (w.key_of node, w.value_of_node node)

module _ (w : LogicalWords) where
  -- a walk passes the nodes of a chain
  pub walk-linked : (most value : ℕ) (ns : List ℕ) → length ns ≤ most → AllByRecursion (λ n. 1 ≤ n) ns → Linked w value ns → walk w most value ≡ ns
  walk-linked most value [] fits some l = walk-none w most value (ap linked_node l ∙ linked_node-zero)
  walk-linked zero value (n ∷ ns) fits some l = absurd (omega arith)
  walk-linked (suc most) value (n ∷ ns) fits some l =
      let is : linked_node value ≡ n = ap linked_node l.0 ∙ linked_node-link n in
      walk-some w most value (λ e. let low = some.0 in let zero_is : n ≡ 0 = sym is ∙ e in omega arith)
      ∙ ap (λ node. node ∷ walk w most (next_of w node)) is
      ∙ ap (λ nodes. n ∷ nodes) (walk-linked most (next_of w n) ns (omega arith) some.1 l.1)

  -- none of its words is marked
  pub linked_unmarked : (value : ℕ) (ns : List ℕ) → Linked w value ns → is_marked value ≡ false
  linked_unmarked value [] l = ap is_marked l ∙ unmarked-zero
  linked_unmarked value (n ∷ ns) l = ap is_marked l.0 ∙ is_marked-link_value n false

  pub pairs-linked : (value : ℕ) (ns : List ℕ) → Linked w value ns → unmarked_pairs w ns ≡ map_list (pair_of w) ns
  pairs-linked value [] l = refl
  pairs-linked value (n ∷ ns) l =
      cond-false (is_marked (next_of w n)) _ _ (linked_unmarked (next_of w n) ns l.1) ∙ ap (λ ps. pair_of w n ∷ ps) (pairs-linked (next_of w n) ns l.1)

  -- the values behind a node
  pub values-linked : (most node : ℕ) (ns : List ℕ) → length ns ≤ most → AllByRecursion (λ n. 1 ≤ n) ns → Linked w (next_of w node) ns
      → values_after w most node ≡ map_list w.value_of_node ns
  values-linked most node [] fits some l = walk_ends w most node l
  values-linked zero node (n ∷ ns) fits some l = absurd (omega arith)
  values-linked (suc most) node (n ∷ ns) fits some l =
      walk_goes w most node n l.0 (link_some n some.0)
      ∙ ap (λ vs. w.value_of_node n ∷ vs) (values-linked most n ns (omega arith) some.1 l.1)

  -- each node of a chain names the one after it, and the last names none
  pub linked_next : (value : ℕ) (ns : List ℕ) (i : ℕ) → suc i < length ns → Linked w value ns → next_of w (get_or ns i 0) ≡ link (get_or ns (suc i) 0)
  linked_next value [] i below l = absurd (omega arith)
  linked_next value (n ∷ []) i below l = absurd (omega arith)
  linked_next value (n ∷ m ∷ ns) zero below l = l.1.0
  linked_next value (n ∷ m ∷ ns) (suc i) below l = linked_next (next_of w n) (m ∷ ns) i (omega arith) l.1

  pub linked_last : (value : ℕ) (ns : List ℕ) (i : ℕ) → suc i ≡ length ns → Linked w value ns → next_of w (get_or ns i 0) ≡ 0
  linked_last value [] i is l = absurd (omega arith)
  linked_last value (n ∷ []) zero is l = l.1
  linked_last value (n ∷ []) (suc i) is l = absurd (omega arith)
  linked_last value (n ∷ m ∷ ns) zero is l = absurd (omega arith)
  linked_last value (n ∷ m ∷ ns) (suc i) is l = linked_last (next_of w n) (m ∷ ns) i (omega arith) l.1

-- the keys and values of a structure's nodes, in order
abbrev pub entries_of : List LaidNode → Structure → List (ℕ × ℕ)
entries_of [] s = []
entries_of (n ∷ nodes) s = cond (same_structure n.structure s) ((n.key, n.value) ∷ entries_of nodes s) (entries_of nodes s)

-- they stand in the field
pub entries_stand : (shape : Shape) (words : List ℕ) (k : ℕ) (nodes : List LaidNode) (s : Structure) → HaveFields shape words k nodes
    → map_list (pair_of (logical_words shape words)) (numbers_from k nodes s) ≡ entries_of nodes s
entries_stand shape words k [] s have = refl
entries_stand shape words k (n ∷ nodes) s have =
    let w = logical_words shape words in
    let rest = entries_stand shape words (k + 1) nodes s have.2 in
    elim (same_structure n.structure s) as (λ b. map_list (pair_of w) (cond b (k ∷ numbers_from (k + 1) nodes s) (numbers_from (k + 1) nodes s))
    ≡ cond b ((n.key, n.value) ∷ entries_of nodes s) (entries_of nodes s)) [
      | true ↦ ap (λ key. (key, w.value_of_node k) ∷ map_list (pair_of w) (numbers_from (k + 1) nodes s)) have.0
          ∙ ap (λ v. (n.key, v) ∷ map_list (pair_of w) (numbers_from (k + 1) nodes s)) have.1
          ∙ ap (λ ps. (n.key, n.value) ∷ ps) rest
      | false ↦ rest
    ]
