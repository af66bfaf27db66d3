-- What the calls of a transaction do, answered or refused.
use Rattle.std.specs.Prelude.{◌≡◌, ◌≤◌, ℕ, List, [], ◌∷◌, ◌++◌, Option, Some, None, unwrap_or, length}
use Rattle.md_history.specs.declared.acts.Op.{Op}
use Rattle.md_history.specs.declared.acts.Op.TheVariants.{Get, Insert, Remove, Put, Enqueue, Dequeue, Front, Line}
use Rattle.md_history.specs.declared.acts.Line.{Line as Values}
use Rattle.md_history.specs.declared.acts.TheConstants.{MAX_LINE}
use Rattle.md_history.specs.declared.acts.Reply.{Reply}
use Rattle.md_history.specs.declared.acts.Reply.TheVariants.{Value, Flag, Nothing, Line as TheLine}
use Rattle.md_history.specs.declared.acts.Act.{Act}
use Rattle.md_history.specs.declared.stops.Stop.{Stop}
use Rattle.md_history.specs.Act.{act_of}
use Rattle.md_history.specs.State.{line_of}

-- why a transaction stopped, and the operation that was refused first
pub record Refusal : Type 0 where
  pub stop : Stop
  pub op : Op

-- the refusal that stands after a call was refused: the first one stays
abbrev pub first_refusal : Option Refusal → Op → Stop → Refusal
first_refusal stood op why = unwrap_or stood (record { stop = why; op = op })

-- a call was answered: no stop stood or stands, and its act was added
pub record Answered (op : Op) (reply : Reply) (acts acts' : List Act) (stop stop' : Option Refusal) : Type 0 where
  pub going : stop ≡ None
  pub goes_on : stop' ≡ None
  pub added : acts' ≡ acts ++ act_of op reply ∷ []

-- a call was refused: no act was added, and the answer is the stop of the first refusal, which stands from then on
pub record Refused (op : Op) (why : Stop) (acts acts' : List Act) (stop stop' : Option Refusal) : Type 0 where
  pub same : acts' ≡ acts
  pub stands : stop' ≡ Some (first_refusal stop op why)
  pub again : (first_refusal stop op why).stop ≡ why

-- how many values one operation may look at
pub record IsLineLength (n : ℕ) : Type 0 where
  pub some : 1 ≤ n
  pub few : n ≤ MAX_LINE

-- a line of at most n values
pub record IsLineOf (n : ℕ) (l : Values) : Type 0 where
  pub shown : List ℕ
  pub few : length shown ≤ n
  pub is : l ≡ line_of shown

-- the replies of an operation's kind
abbrev pub MayReply : Op → Reply → Type 0
MayReply (Insert m k v) (Flag b) = Unit {0}
MayReply (Enqueue q v) Nothing = Unit {0}
MayReply (Get m k) (Value v) = Unit {0}
MayReply (Remove m k) (Value v) = Unit {0}
MayReply (Put m k v) (Value o) = Unit {0}
MayReply (Dequeue q) (Value v) = Unit {0}
MayReply (Front q) (Value v) = Unit {0}
MayReply (Line q n) (TheLine l) = IsLineOf n l
MayReply _ _ = ⊥

-- a part of a body broke off: the transaction has the stop, and whatever the refused operation would have
-- answered, the acts that were added and this one are such as the part makes
pub record BrokeOff (makes : List Act → Type 0) (why : Stop) (acts acts' : List Act) (stop' : Option Refusal)
    : Type 0 where
  pub refusal : Refusal
  pub stopped : stop' ≡ Some refusal
  pub same : refusal.stop ≡ why
  pub added : List Act
  pub adds : acts' ≡ acts ++ added
  pub made : (r : Reply) → MayReply refusal.op r → makes (added ++ act_of refusal.op r ∷ [])
