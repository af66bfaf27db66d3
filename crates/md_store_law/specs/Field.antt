-- What the words of a field stand for when every count in it is even, so that no descriptor stands in it.
use Rattle.std.specs.Prelude.{◌≡◌, ℕ, true, List, Option, slice_index}
use Rattle.md_words.specs.declared.shape.Shape.{Shape}
use Rattle.md_words.specs.Content.{value_of, count_of, is_even}
use Rattle.md_words.specs.Place.{node_key, node_value}
use Rattle.md_words.specs.Layout.{address}
use Rattle.md_words.specs.LayoutLaws.{IsField}
use Rattle.md_words.specs.PlaceAt.{IsCounted}
use Rattle.md_machine.specs.declared.node.Structure.{Structure}
use Rattle.md_machine.specs.LogicalHeap.{LogicalWords, LogicalHeap}
use Rattle.md_store_law.specs.Store.{IsStore}

-- the values of a field's words, and the keys and values of its nodes
abbrev pub logical_words : Shape → List ℕ → LogicalWords
logical_words shape words = record {
  shape = shape;
  value = λ word. value_of (slice_index words word);
  key_of = λ node. slice_index words (address shape (node_key node));
  value_of_node = λ node. slice_index words (address shape (node_value node));
}

-- a store of these words, in which these nodes are placed
abbrev pub IsStoreWith : Shape → List ℕ → (ℕ → Option Structure) → Type 0
IsStoreWith shape words placed = let h : LogicalHeap = record { words = logical_words shape words; placed = placed } in IsStore h

-- the words of a field with even counts, which are a store
pub record IsStoreField (shape : Shape) (words : List ℕ) : Type 0 where
  pub field : IsField shape words
  pub even : (word : ℕ) → IsCounted shape word → is_even (count_of (slice_index words word)) ≡ true
  pub placed : ℕ → Option Structure
  pub store : IsStoreWith shape words placed
