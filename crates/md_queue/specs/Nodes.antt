-- When a node's words may be looked at, and recorded.
use Rattle.std.specs.Prelude.{◌≡◌, ◌<◌, ◌⊎◌, ℕ, Contains, true}
use Rattle.md_words.specs.Layout.{IsNode}
use Rattle.md_machine.specs.declared.node.Structure.{Structure}
use Rattle.md_machine.specs.Meaning.{Meaning}
use Rattle.md_nbtc_law.specs.declared.seen.Kind.TheVariants.{Critical}
use Rattle.md_nbtc_law.specs.declared.seen.Seen.{Seen}
use Rattle.md_nbtc_law.specs.Calls.{MayExchange}
use Rattle.md_nbtc_law.specs.Cleaning.{IsWrittenFor}
use Rattle.md_nbtc_law.specs.Going.{IsFoundThere, IsUnderWay}
use Rattle.md_nbtc_law.specs.Known.{KnowsPlaced}
use Rattle.md_nbtc_law.specs.Seeing.{Gave}
use Rattle.md_nbtc_law.specs.State.{OwnNode, TxnState, shape_in}
use Rattle.md_queue_law.specs.QueueShape.{link}
use Rattle.md_queue.specs.Words.{move_kind, next_at, tail_at, tail_move}

module _ (M : Meaning) (t : TxnState) where
  -- the transaction is under way, and the node is one of the field
  pub record MayLook (node : ℕ) : Type 0 where
    pub going : IsUnderWay M t
    pub exists : IsNode (shape_in t) node

  -- and this was seen in its next word
  pub record MayNote (node : ℕ) (next : Seen) : Type 0 where
    pub going : IsUnderWay M t
    pub exists : IsNode (shape_in t) node
    pub operates : t.hand.operating ≡ true
    pub gave : Gave t (next_at t node) next
    pub there : IsFoundThere M t (next_at t node) next

  -- the node is known to be placed, or is an own one
  pub record IsReadable (node : ℕ) : Type 0 where
    pub exists : IsNode (shape_in t) node
    pub among : ((structure : Structure) × KnowsPlaced M t node structure) ⊎ ((n : OwnNode) × Contains t.nodes n × (n.node ≡ node))

  -- so its key and its value may be read
  pub record MayRead (node : ℕ) : Type 0 where
    pub going : IsUnderWay M t
    pub readable : IsReadable node

  -- the tail may be moved to what a next word names
  pub record MayMove (queue : ℕ) (tail next : Seen) : Type 0 where
    pub going : IsUnderWay M t
    pub within : queue < (shape_in t).queues
    pub may : MayExchange M t (tail_at t queue) tail next.value (move_kind next)

  -- a node's next word may be changed to name a new one
  pub record MayLink (node : ℕ) (next : Seen) (new : ℕ) : Type 0 where
    pub going : IsUnderWay M t
    pub exists : IsNode (shape_in t) node
    pub new_exists : IsNode (shape_in t) new
    pub may : MayExchange M t (next_at t node) next (link new) Critical

-- the next word of the tail's node was written so that the move of the tail to the new node may be kept
pub record MayMoveLater (t : TxnState) (queue : ℕ) (tail : Seen) (node : ℕ) : Type 0 where
  pub operates : t.hand.operating ≡ true
  pub within : queue < (shape_in t).queues
  pub written : IsWrittenFor t (tail_move t queue tail node)
