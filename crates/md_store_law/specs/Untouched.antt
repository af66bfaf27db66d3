-- What holds of the words of a field in which nothing was changed since it was laid.
use Rattle.std.specs.Prelude.{◌≡◌, ◌<◌, ◌≤◌, ℕ, false, List, slice_index}
use Rattle.md_words.specs.declared.shape.Shape.{Shape}
use Rattle.md_words.specs.Content.{count_of, value_of}
use Rattle.md_words.specs.Layout.{IsNode}
use Rattle.md_words.specs.Link.{is_marked, link_value}
use Rattle.md_words.specs.Place.{node_next, queue_tail}
use Rattle.md_words.specs.PlaceAt.{IsCounted}
use Rattle.md_machine.specs.Machine.{word_at}

-- every count is 0, no node's next word is marked, and the tail of a queue names a node that names none
pub record IsUntouched (shape : Shape) (words : List ℕ) : Type 0 where
  pub counts : (word : ℕ) → IsCounted shape word → count_of (slice_index words word) ≡ 0
  pub unmarked : (node : ℕ) → IsNode shape node → is_marked (value_of (word_at shape words (node_next node))) ≡ false
  pub tails : (queue node : ℕ) → queue < shape.queues → 1 ≤ node
      → value_of (word_at shape words (queue_tail queue)) ≡ link_value node false → value_of (word_at shape words (node_next node)) ≡ 0
