-- What a transaction sees of a heap, beside the heap as it is.
use Rattle.std.specs.Prelude.{◌≡◌, ℕ}
use Rattle.md_words.specs.Layout.{IsNode}
use Rattle.md_machine.specs.LogicalHeap.{IsPlaced, LogicalHeap}

-- it sees the nodes that are placed there, with their structures and keys, and each is a node of the field. Of words
-- that it recorded or changed it may see other values
pub record SeesNodes (own h : LogicalHeap) : Type 0 where
  pub shape : own.words.shape ≡ h.words.shape
  pub placed : (node : ℕ) → own.placed node ≡ h.placed node
  pub key_of : (node : ℕ) → own.words.key_of node ≡ h.words.key_of node
  pub exist : (node : ℕ) → IsPlaced h node → IsNode h.words.shape node
