-- Heaps that have the same nodes have the same facts. And what the same changes and new nodes leave of two heaps.
use Rattle.std.proofs.Common.{◌≡◌, ℕ, refl, sym, ap, ◌∙◌, subst}
use Rattle.std.proofs.lemmas.Option.{IfSome_then}
use Rattle.md_words.specs.declared.shape.Shape.{Shape}
use Rattle.md_words.specs.Place.{node_next}
use Rattle.md_words.specs.Layout.{address, IsNode}
use Rattle.md_words.specs.PlaceAt.{place_at, IsCounted}
use Rattle.md_words.proofs.Places.{counted_by_place, place_at-address}
use Rattle.md_machine.specs.LogicalHeap.{AgreeWherePlaced, IsPlaced, LogicalHeap, next_of}
use Rattle.md_machine.specs.Meaning.{KeepsFacts}

-- two heaps have the same placed nodes, each with the same words
pub record SameNodes (h k : LogicalHeap) : Type 0 where
  pub placed : (node : ℕ) → k.placed node ≡ h.placed node
  pub key_of : (node : ℕ) → IsPlaced h node → k.words.key_of node ≡ h.words.key_of node
  pub value_of_node : (node : ℕ) → IsPlaced h node → k.words.value_of_node node ≡ h.words.value_of_node node
  pub next : (node : ℕ) → IsPlaced h node → next_of k.words node ≡ next_of h.words node

-- so they have the same facts
pub same_nodes_facts : (h k : LogicalHeap) → SameNodes h k → KeepsFacts h k
same_nodes_facts h k same f holds =
    let there : IsPlaced h f.node = (f.structure, holds.placed) in
    record {
      placed = same.placed f.node ∙ holds.placed;
      key = IfSome_then f.key holds.key (λ x e. same.key_of f.node there ∙ e);
      value = IfSome_then f.value holds.value (λ x e. same.value_of_node f.node there ∙ e);
      next = IfSome_then f.next holds.next (λ x e. (same.next f.node there ∙ e.0, e.1));
    }

pub same_nodes_back : (h k : LogicalHeap) → SameNodes h k → SameNodes k h
same_nodes_back h k same = record {
  placed = λ node. sym (same.placed node);
  key_of = λ node placed. sym (same.key_of node (before node placed));
  value_of_node = λ node placed. sym (same.value_of_node node (before node placed));
  next = λ node placed. sym (same.next node (before node placed));
}
  where
    before : (node : ℕ) → IsPlaced k node → IsPlaced h node
    before node placed = (placed.0, sym (same.placed node) ∙ placed.1)

-- what keeps the facts of one of two keeps those of the other
pub facts_rise_on : (h k h2 k2 : LogicalHeap) → SameNodes h k → SameNodes h2 k2 → KeepsFacts h h2 → KeepsFacts k k2
facts_rise_on h k h2 k2 same same2 rise f holds =
    same_nodes_facts h2 k2 same2 f (rise f (same_nodes_facts k h (same_nodes_back h k same) f holds))

-- the next word of a node is a counted one
pub next_counted : (shape : Shape) (node : ℕ) → IsNode shape node → IsCounted shape (address shape (node_next node))
next_counted shape node exists = (counted_by_place shape (node_next node) exists).1 refl

-- and that of no other
pub next_alone : (shape : Shape) (node other : ℕ) → IsNode shape node → IsNode shape other
    → address shape (node_next node) ≡ address shape (node_next other) → node ≡ other
next_alone shape node other exists there e =
    one (sym (place_at-address shape (node_next node) exists) ∙ ap (place_at shape) e ∙ place_at-address shape (node_next other) there)
  where
    one : node_next node ≡ node_next other → node ≡ other
    one p = cc

-- heaps that agree have the same nodes, where placed nodes are nodes of the field
pub agree_nodes : (h k : LogicalHeap) → AgreeWherePlaced h k → ((node : ℕ) → IsPlaced h node → IsNode h.words.shape node) → SameNodes h k
agree_nodes h k agree exist = record {
  placed = agree.placed;
  key_of = agree.key_of;
  value_of_node = agree.value_of_node;
  next = λ node placed.
      let shape = h.words.shape in
      let exists = exist node placed in
      ap (λ s. k.words.value (address s (node_next node))) agree.shape
      ∙ agree.value (address shape (node_next node)) (next_counted shape node exists)
      (λ other there e. subst (IsPlaced h) (next_alone shape node other exists there e) placed);
}
