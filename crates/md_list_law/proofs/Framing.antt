-- Words of nodes that aren't placed don't matter to a list, and its links name placed nodes.
use Rattle.std.proofs.Common.{ℕ, ◌<◌, refl, sym, ap, ◌∙◌, subst, inl, inr, ⊎_elim}
use Rattle.std.proofs.lemmas.Bool.{cases_eq}
use Rattle.md_words.specs.declared.shape.Shape.{Shape}
use Rattle.md_words.specs.Place.{bucket_head, node_next}
use Rattle.md_words.specs.Layout.{IsNode}
use Rattle.md_words.specs.PlaceAt.{IsCounted}
use Rattle.md_words.proofs.Places.{counted_by_place}
use Rattle.md_machine.specs.declared.node.Structure.{Structure}
use Rattle.md_machine.specs.LogicalHeap.{LogicalHeap, IsPlaced, IsNoUnplacedNext, AgreeWherePlaced}
use Rattle.md_machine.specs.Meaning.{NamesPlaced}
use Rattle.md_list_law.specs.ListShape.{next_word, head_word, IsList, Names}
use Rattle.md_list_law.proofs.Links.{next_words_differ, head_is_no_next}
use Rattle.md_list_law.proofs.ListKept.{SameList}

-- a bucket's head is no node's next word, and a placed node's next word is no other's
pub head_free : (h : LogicalHeap) (map bucket : ℕ) → map < h.words.shape.maps → bucket < h.words.shape.buckets
    → IsNoUnplacedNext h (head_word h.words.shape map bucket)
head_free h map bucket m b node is_node e = absurd (head_is_no_next h.words.shape map bucket node m b is_node (sym e))

pub next_free : (h : LogicalHeap) (node : ℕ) → IsNode h.words.shape node → IsPlaced h node → IsNoUnplacedNext h (next_word h.words.shape node)
next_free h node is_node placed other is_other e = ⊎_elim
    (λ same. subst (IsPlaced h) same placed)
    (λ ne. absurd (next_words_differ h.words.shape node other is_node is_other ne e))
    (cases_eq node other)

-- both are counted
pub head_counted : (shape : Shape) (map bucket : ℕ) → map < shape.maps → bucket < shape.buckets → IsCounted shape (head_word shape map bucket)
head_counted shape map bucket m b = (counted_by_place shape (bucket_head map bucket) (m, b)).1 refl

pub next_counted : (shape : Shape) (node : ℕ) → IsNode shape node → IsCounted shape (next_word shape node)
next_counted shape node is_node = (counted_by_place shape (node_next node) is_node).1 refl

module _ (h k : LogicalHeap) (agree : AgreeWherePlaced h k) (list : Structure) (map bucket : ℕ) (m : map < h.words.shape.maps)
    (b : bucket < h.words.shape.buckets) where
  -- heaps that agree where nodes are placed have the same list
  pub same_framed : IsList h list (head_word h.words.shape map bucket) → SameList h k list (head_word h.words.shape map bucket)
  same_framed is = record {
    shape = agree.shape;
    there = λ node i. agree.placed node ∙ i;
    back = λ node i. sym (agree.placed node) ∙ i;
    first = agree.value (head_word h.words.shape map bucket) (head_counted h.words.shape map bucket m b) (head_free h map bucket m b);
    next = λ node i. ap (λ (shape : Shape). k.words.value (next_word shape node)) agree.shape
        ∙ agree.value (next_word h.words.shape node) (next_counted h.words.shape node (is.nodes node i)) (next_free h node (is.nodes node i) (list, i));
    key_of = λ node i. agree.key_of node (list, i);
    value_of_node = λ node i. agree.value_of_node node (list, i);
  }

-- what names a node of a list names a placed one
pub names_placed : (h : LogicalHeap) (list : Structure) (value : ℕ) → Names h list value → NamesPlaced h value
names_placed h list value = ⊎_elim inl (λ i. inr (list, i))
