-- The shape of a queue (Michael and Scott 1996): its nodes stand in a line by their ranks, and its head and its tail
-- name nodes of the line.
use Rattle.std.specs.Prelude.{◌≡◌, ◌<◌, ℕ, suc, false, Some}
use Rattle.md_words.specs.Link.{link_value}
use Rattle.md_words.specs.Place.{queue_head, queue_tail}
use Rattle.md_words.specs.Layout.{address, IsNode}
use Rattle.md_machine.specs.declared.node.Structure.TheVariants.{Queue}
use Rattle.md_machine.specs.LogicalHeap.{LogicalWords, LogicalHeap, next_of}

-- the value that names a node
abbrev pub link : ℕ → ℕ
link node = link_value node false

-- the values of a queue's head and of its tail
abbrev pub head_of : LogicalWords → (queue : ℕ) → ℕ
head_of w queue = w.value (address w.shape (queue_head queue))

abbrev pub tail_of : LogicalWords → (queue : ℕ) → ℕ
tail_of w queue = w.value (address w.shape (queue_tail queue))

-- a node is placed in a queue
abbrev pub IsOf : LogicalHeap → (queue node : ℕ) → Type 0
IsOf h queue node = h.placed node ≡ Some (Queue queue)

-- a value names a node that is placed in the queue
abbrev pub NamesOneOf : LogicalHeap → (queue value : ℕ) → Type 0
NamesOneOf h queue value = (node : ℕ) × IsOf h queue node × (value ≡ link node)

-- The nodes of a queue stand in a line. A node's key is its rank: the ranks are 0, 1, 2 and so on below `count`, each
-- once, and `node_of` gives the node of a rank. Each node names the next one, and the last one names none.
pub record StandInLine (h : LogicalHeap) (queue count : ℕ) (node_of : ℕ → ℕ) : Type 0 where
  pub exist : (node : ℕ) → IsOf h queue node → IsNode h.words.shape node
  pub ranked : (node : ℕ) → IsOf h queue node → (h.words.key_of node < count) × (node_of (h.words.key_of node) ≡ node)
  pub placed : (rank : ℕ) → rank < count → IsOf h queue (node_of rank) × (h.words.key_of (node_of rank) ≡ rank)
  pub next : (rank : ℕ) → suc rank < count → next_of h.words (node_of rank) ≡ link (node_of (suc rank))
  pub last : (rank : ℕ) → suc rank ≡ count → next_of h.words (node_of rank) ≡ 0

-- the shape of one queue
pub record QueueShape (h : LogicalHeap) (queue : ℕ) : Type 0 where
  pub count : ℕ
  pub node_of : ℕ → ℕ
  pub line : StandInLine h queue count node_of
  pub head : NamesOneOf h queue (head_of h.words queue)
  pub tail : NamesOneOf h queue (tail_of h.words queue)

-- every queue of the field has it
abbrev pub QueuesStand : LogicalHeap → Type 0
QueuesStand h = (queue : ℕ) → queue < h.words.shape.queues → QueueShape h queue
