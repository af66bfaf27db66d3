-- A transaction on a store that its caller makes operation by operation.
use Rattle.std.specs.Prelude.{◌≡◌, ◌<◌, true, false, Option, None, Some, Result, MatchResult}
use Rattle.md_words.specs.declared.shape.Shape.{Shape}
use Rattle.md_history.specs.declared.acts.Op.{Op}
use Rattle.md_history.specs.declared.acts.Op.TheVariants.{Get, Insert, Remove, Put, Enqueue, Dequeue, Front, Line}
use Rattle.md_history.specs.declared.acts.Reply.{Reply}
use Rattle.md_history.specs.declared.stops.Stop.{Stop}
use Rattle.md_history.specs.Calls.{IsLineLength}
use Rattle.md_list.specs.Operations.{IsBegun}
use Rattle.md_nbtc_law.specs.Calls.{MayAnswer}
use Rattle.md_nbtc_law.specs.Going.{IsUnderWay}
use Rattle.md_nbtc_law.specs.Known.{IsLater}
use Rattle.md_nbtc_law.specs.State.{TxnState}
use Rattle.md_rule.specs.Views.{FieldView}
use Rattle.md_store_law.specs.Store.{store}

-- the map or the queue of an operation exists, and a line has one to twelve values
abbrev pub Exists : Shape → Op → Type 0
Exists s (Get map key) = map < s.maps
Exists s (Insert map key value) = map < s.maps
Exists s (Remove map key) = map < s.maps
Exists s (Put map key value) = map < s.maps
Exists s (Enqueue queue value) = queue < s.queues
Exists s (Dequeue queue) = queue < s.queues
Exists s (Front queue) = queue < s.queues
Exists s (Line queue n) = (queue < s.queues) × IsLineLength n

-- a transaction on the field that has this stop, if any; while it has none, no operation is begun between two calls
pub record IsActing (f : FieldView) (t : TxnState) (stop : Option Stop) : Type 0 where
  pub going : IsUnderWay store t
  pub field : t.field ≡ f
  pub stopped : t.stop ≡ stop
  pub between : stop ≡ None → t.hand.operating ≡ false

-- an operation was begun in a transaction that has no stop
pub record HasBegun (t : TxnState) : Type 0 where
  pub begun : IsBegun store t
  pub none : t.stop ≡ None

-- an operation that was begun may be ended with its reply
pub record MayEnd (t u : TxnState) (op : Op) (reply : Reply) : Type 0 where
  pub later : IsLater t u
  pub operates : u.hand.operating ≡ true
  pub none : u.stop ≡ None
  pub may : MayAnswer store u op reply

-- it was refused, and the transaction keeps the stop
pub record WasRefused (t u : TxnState) (why : Stop) : Type 0 where
  pub later : IsLater t u
  pub going : IsUnderWay store u
  pub kept : u.stop ≡ Some why

-- what the call of an operation leaves
abbrev pub Makes : (t u : TxnState) → Op → Result Reply Stop → Type 0
Makes t u op result = MatchResult result (MayEnd t u op) (WasRefused t u)
