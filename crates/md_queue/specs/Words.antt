-- The words of a queue, as a transaction names them.
use Rattle.std.specs.Prelude.{ℕ, if◌then◌else◌}
use Rattle.md_words.specs.Layout.{address}
use Rattle.md_words.specs.Link.{linked_node}
use Rattle.md_words.specs.Place.{node_next, queue_head, queue_tail}
use Rattle.md_nbtc_law.specs.declared.seen.Cleanup.{Cleanup}
use Rattle.md_nbtc_law.specs.declared.seen.Cleanup.TheVariants.{MoveTail}
use Rattle.md_nbtc_law.specs.declared.seen.Kind.{Kind}
use Rattle.md_nbtc_law.specs.declared.seen.Kind.TheVariants.{Critical, Plain}
use Rattle.md_nbtc_law.specs.declared.seen.Seen.{Seen}
use Rattle.md_nbtc_law.specs.State.{TxnState, shape_in}

-- the head's word, the tail's, and a node's next word
abbrev pub head_at : TxnState → (queue : ℕ) → ℕ
head_at t queue = address (shape_in t) (queue_head queue)

abbrev pub tail_at : TxnState → (queue : ℕ) → ℕ
tail_at t queue = address (shape_in t) (queue_tail queue)

abbrev pub next_at : TxnState → (node : ℕ) → ℕ
next_at t node = address (shape_in t) (node_next node)

-- the tail follows as a part of the transaction if it follows an own change
abbrev pub move_kind : (next : Seen) → Kind
move_kind next = if next.own then Critical else Plain

-- the move of the tail to a new node, from the node that was seen there
abbrev pub tail_move : TxnState → (queue : ℕ) → (tail : Seen) → (node : ℕ) → Cleanup
tail_move t queue tail node = MoveTail (tail_at t queue) (linked_node tail.value) node
