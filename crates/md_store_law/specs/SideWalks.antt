-- Walks along several queues side by side: how they begin, what a step does, and what they have read in the end.
use Rattle.std.specs.Prelude.{◌≡◌, ◌≢◌, ◌⊎◌, ◌+◌, ◌<◌, ◌≤◌, ◌++◌, ℕ, Bool, true, false, List, [], ◌∷◌, length, slice_index_or}
use Rattle.md_words.specs.declared.shape.Shape.{Shape}
use Rattle.md_words.specs.Link.{linked_node}
use Rattle.md_words.specs.Layout.{IsNode}
use Rattle.md_history.specs.State.{State, queue_at}
use Rattle.md_machine.specs.LogicalHeap.{next_of}
use Rattle.md_queue_law.specs.QueueShape.{head_of}
use Rattle.md_queue_law.specs.QueueValues.{node_after}
use Rattle.md_store_law.specs.declared.side_walks.QueueWalk.{QueueWalk}
use Rattle.md_store_law.specs.Field.{logical_words}
use Rattle.md_store_law.specs.Compacted.{values_in}

-- a walk stands at the first node of a queue, and has read nothing
pub record IsWalkBegun (shape : Shape) (words : List ℕ) (queue : ℕ) (walk : QueueWalk) : Type 0 where
  pub node : walk.node ≡ linked_node (head_of (logical_words shape words) queue)
  pub values : walk.values.items ≡ []

-- a walk may take a step: its node exists, and the next one too if there is one
pub record MayStep (shape : Shape) (words : List ℕ) (walk : QueueWalk) : Type 0 where
  pub node : IsNode shape walk.node
  pub next : next_of (logical_words shape words) walk.node ≢ 0 → IsNode shape (node_after (logical_words shape words) walk.node)

-- it goes on to the next node, and reads its value
pub record WalkGoesOn (shape : Shape) (words : List ℕ) (before after : QueueWalk) : Type 0 where
  pub next : next_of (logical_words shape words) before.node ≢ 0
  pub node : after.node ≡ node_after (logical_words shape words) before.node
  pub values : let w = logical_words shape words in after.values.items ≡ before.values.items ++ w.value_of_node (node_after w before.node) ∷ []

-- it stays at the last node
pub record WalkStays (shape : Shape) (words : List ℕ) (before after : QueueWalk) : Type 0 where
  pub last : next_of (logical_words shape words) before.node ≡ 0
  pub same : after ≡ before

-- a step of a walk, by whether it went on
abbrev pub IsStep : Shape → List ℕ → QueueWalk → (on : Bool) → QueueWalk → Type 0
IsStep shape words before true after = WalkGoesOn shape words before after
IsStep shape words before false after = WalkStays shape words before after

-- a walk has read the values of a queue
abbrev pub AreRead : Shape → List ℕ → (queue : ℕ) → QueueWalk → Type 0
AreRead shape words queue walk = walk.values.items ≡ values_in shape words queue

-- each walk of a group, with the number of its queue
abbrev pub EachWalk : (ℕ → QueueWalk → Type 0) → (first : ℕ) → List QueueWalk → Type 0
EachWalk P first walks = (i : ℕ) (other : QueueWalk) → i < length walks → P (first + i) (slice_index_or walks i other)

-- a step of each walk, after which a group is going if one of its walks went on
pub record AreSteps (shape : Shape) (words : List ℕ) (before : List QueueWalk) (going : Bool) (after : List QueueWalk) : Type 0 where
  pub count : length after ≡ length before
  pub each : (i : ℕ) (other : QueueWalk) → i < length before
      → (WalkGoesOn shape words (slice_index_or before i other) (slice_index_or after i other) × (going ≡ true))
      ⊎ WalkStays shape words (slice_index_or before i other) (slice_index_or after i other)

-- the queues from a number on have what walks have read, and all else is as it was
pub record AreFilled (first : ℕ) (walks : List QueueWalk) (before after : State) : Type 0 where
  pub maps : after.maps ≡ before.maps
  pub queues : length after.queues ≡ length before.queues
  pub filled : EachWalk (λ queue walk. queue_at after queue ≡ walk.values.items) first walks
  pub others : (queue : ℕ) → (queue < first) ⊎ (first + length walks ≤ queue) → queue_at after queue ≡ queue_at before queue
