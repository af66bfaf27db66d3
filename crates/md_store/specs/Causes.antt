-- Why an attempt by a pass of a store stops.
use Rattle.std.specs.Prelude.{◌≡◌, ◌⊎◌, List, None}
use Rattle.md_arena.specs.Left.{HasTryLeft, NoLane}
use Rattle.md_history.specs.declared.acts.Act.{Act}
use Rattle.md_history.specs.declared.stops.Limit.TheVariants.{Tries}
use Rattle.md_history.specs.declared.stops.Shown.{Shown}
use Rattle.md_history.specs.declared.stops.Stop.{Stop}
use Rattle.md_history.specs.declared.stops.Stop.TheVariants.{Conflict, Limit}
use Rattle.md_nbtc_law.specs.Ended.{WasLost}
use Rattle.md_nbtc_law.specs.Ending.{Stopped}
use Rattle.md_nbtc_law.specs.Going.{HasCause}
use Rattle.md_nbtc_law.specs.State.{TxnState}
use Rattle.md_rule.specs.Views.{FieldView, PassState}
use Rattle.md_store_bodies.specs.Counted.{Exceeds, Reaches}
use Rattle.md_store_bodies.specs.Running.{BreaksOff, IsRunning}
use Rattle.md_store_bodies.specs.Store.{HasAllLanes}
use Rattle.md_store_law.specs.Store.{store}

-- The body's transaction, begun with this pass on this field, was stopped: one of its calls was refused so, for this cause.
-- The acts with the refused operation are such as the body makes. They reach the limit that refused it; and they exceed it,
-- if the pass holds all lanes.
pub record WasRefused (f : FieldView) (makes : List Act → Type 0) (before after : PassState) (why : Stop) : Type 0 where
  pub txn : TxnState
  pub field : txn.field ≡ f
  pub off : BreaksOff makes before txn why
  pub cause : HasCause txn why
  pub reaches : Reaches before txn.hand.acts off.broke.refusal.op why
  pub exceeds : HasAllLanes f before → Exceeds f before txn.hand.acts off.broke.refusal.op why
  pub stopped : Stopped store txn after

-- or no call was refused, and it didn't commit, with a conflict that shows why
pub record WasBeaten (f : FieldView) (before after : PassState) (why : Stop) : Type 0 where
  pub txn : TxnState
  pub field : txn.field ≡ f
  pub running : IsRunning before txn None
  pub shown : Shown
  pub same : why ≡ Conflict shown
  pub lost : WasLost store txn after shown

-- why an attempt stops: no lane of the pass has an attempt left; or a call of the body was refused; or the transaction
-- didn't commit
abbrev pub StopsBy : FieldView → (makes : List Act → Type 0) → (before after : PassState) → Stop → Type 0
StopsBy f makes before after why = ((why ≡ Limit Tries) × NoLane before (HasTryLeft before))
    ⊎ (WasRefused f makes before after why ⊎ WasBeaten f before after why)
