-- What a machine whose counts are all even tells of its words.
use Rattle.std.specs.Prelude.{◌≡◌, ℕ, Bool, true, List, Option}
use Rattle.md_words.specs.Content.{count_of, is_even}
use Rattle.md_words.specs.LayoutLaws.{IsField}
use Rattle.md_words.specs.PlaceAt.{IsCounted}
use Rattle.md_machine.specs.declared.node.Structure.{Structure}
use Rattle.md_machine.specs.LogicalHeap.{LogicalHeap}
use Rattle.md_machine.specs.Machine.{Machine, content, shape_of}
use Rattle.md_machine.specs.Resolution.{logical_heap}
use Rattle.md_store_law.specs.Store.{IsStore, state_of_store}
use Rattle.md_store_law.specs.Field.{logical_words, IsStoreField}

-- no descriptor stands in a word of the machine
pub record IsEvenMachine (m : Machine) : Type 0 where
  pub field : IsField (shape_of m) m.words
  pub even : (word : ℕ) → IsCounted (shape_of m) word → is_even (count_of (content m word)) ≡ true

-- the logical words of a resolution, with these nodes placed
abbrev pub heap_with : Machine → List Bool → (ℕ → Option Structure) → LogicalHeap
heap_with m choice placed = record { words = (logical_heap m choice).words; placed = placed }

-- if the logical words of a resolution are a store, with whatever nodes placed, the words are one, with the same state
abbrev pub EvenFieldsAreStores : Type 0
EvenFieldsAreStores = (m : Machine) (choice : List Bool) (placed : ℕ → Option Structure) → IsEvenMachine m
    → IsStore (heap_with m choice placed)
    → IsStoreField (shape_of m) m.words × (state_of_store (logical_words (shape_of m) m.words) ≡ state_of_store (logical_heap m choice).words)
