-- When a field may be opened as a store, with what contents.
use Rattle.std.specs.Prelude.{◌≡◌, ℕ, List}
use Rattle.md_words.specs.declared.shape.Shape.{Shape}
use Rattle.md_history.specs.State.{State}
use Rattle.md_machine.specs.declared.node.PlacedNode.{PlacedNode}
use Rattle.md_machine.specs.Event.{CanOpen}
use Rattle.md_store_law.specs.Store.{store, state_of_store}
use Rattle.md_store_law.specs.Field.{logical_words}

-- with some base nodes placed, the machine may be opened on these words, and they have this state
pub record OpensWith (shape : Shape) (words : List ℕ) (s : State) : Type 0 where
  pub placed : List PlacedNode
  pub can_open : CanOpen store (record { shape = shape; words = words; placed = placed })
  pub state : state_of_store (logical_words shape words) ≡ s
