-- A field that holds what another one holds, and no node more.
use Rattle.std.specs.Prelude.{◌≤◌, ℕ, List}
use Rattle.md_words.specs.declared.shape.Shape.{Shape}
use Rattle.md_words.specs.declared.limits.TheConstants.{MAX_WORDS}
use Rattle.md_words.specs.Limits.{InRange, count_of_words}
use Rattle.md_words.specs.Layout.{HasNumbers}
use Rattle.md_history.specs.State.{State}
use Rattle.md_list_law.specs.Walk.{pairs_from}
use Rattle.md_list_law.specs.ListShape.{head_word}
use Rattle.md_queue_law.specs.QueueValues.{queue_values}
use Rattle.md_store_law.specs.Store.{state_of_store}
use Rattle.md_history.specs.Engine.{needed}
use Rattle.md_store_law.specs.Field.{logical_words, IsStoreField}
use Rattle.md_store_law.specs.Laid.{LaidNode, IsLaid, nodes_by}
use Rattle.md_store_law.specs.Opens.{OpensWith}
use Rattle.md_store_law.specs.Untouched.{IsUntouched}

-- with so many base nodes the shape is in range
pub record MayHaveBase (shape : Shape) (base : ℕ) : Type 0 where
  pub in_range : InRange shape.lanes shape.nodes base shape.tries shape.maps shape.buckets shape.queues
  pub fits : count_of_words shape.lanes shape.nodes base shape.maps shape.buckets shape.queues ≤ MAX_WORDS

-- a shape is another one with so many base nodes
abbrev pub IsWithBase : Shape → ℕ → Shape → Type 0
IsWithBase shape base fresh =
    HasNumbers fresh shape.lanes shape.nodes base shape.tries shape.maps shape.buckets shape.queues

-- the contents of a field's words
abbrev pub contents_of : Shape → List ℕ → State
contents_of shape words = state_of_store (logical_words shape words)

-- the pairs of a field's buckets, and the values of its queues
abbrev pub pairs_in : Shape → List ℕ → (map bucket : ℕ) → List (ℕ × ℕ)
pairs_in shape words map bucket = pairs_from (logical_words shape words) (head_word shape map bucket)

abbrev pub values_in : Shape → List ℕ → (queue : ℕ) → List ℕ
values_in shape words queue = queue_values (logical_words shape words) queue

-- a dummy for each queue, and a node for each of them: the marked nodes and those that a head has passed aren't there
abbrev pub living_nodes : Shape → List ℕ → List LaidNode
living_nodes shape words = nodes_by shape (pairs_in shape words) (values_in shape words)

-- A field of the same shape but for its base nodes, of which it has as many as the contents need. Its nodes are these,
-- laid anew with every count 0; it may be opened, with the same contents.
pub record IsCompacted (shape : Shape) (words : List ℕ) (fresh : Shape) (row : List ℕ) : Type 0 where
  pub numbers : IsWithBase shape (needed (contents_of shape words)) fresh
  pub laid : IsLaid fresh row (living_nodes shape words)
  pub store : IsStoreField fresh row
  pub untouched : IsUntouched fresh row
  pub opens : OpensWith fresh row (contents_of shape words)
