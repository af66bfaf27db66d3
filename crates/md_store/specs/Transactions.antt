-- A transaction of a store whose calls are made one by one, from its begin to its end.
use Rattle.std.specs.Prelude.{◌≡◌, ◌+◌, ℕ, false, List, [], Option, Some, None, option_map}
use Rattle.md_history.specs.declared.acts.Act.{Act}
use Rattle.md_history.specs.declared.stops.Attempt.{Attempt}
use Rattle.md_history.specs.declared.stops.Attempt.TheVariants.{Committed, Stopped as IsStopped}
use Rattle.md_history.specs.declared.stops.Shown.{Shown}
use Rattle.md_history.specs.declared.stops.Stop.TheVariants.{Conflict}
use Rattle.md_history.specs.Attempt.{Stops}
use Rattle.md_history.specs.Calls.{Refusal}
use Rattle.md_history.specs.Engine.{IsNoConflict}
use Rattle.md_history.specs.Front.{LegalFrom}
use Rattle.md_nbtc_law.specs.Ended.{WasCommitted, WasLost}
use Rattle.md_nbtc_law.specs.Ending.{BeginsNot, BeginsTransaction, Stopped}
use Rattle.md_nbtc_law.specs.Going.{HasCause, IsGoing}
use Rattle.md_nbtc_law.specs.State.{TxnState}
use Rattle.md_rule.specs.Views.{FieldView, PassState}
use Rattle.md_store_law.specs.Store.{store}
use Rattle.md_store_bodies.specs.Running.{IsRunning, Running}
use Rattle.md_store_bodies.specs.Store.{IsPassOf, MayStop, all_lanes, begun_by, front_in, start_of}
use Rattle.md_store.specs.Attempted.{IsAttempted}

-- none began: the pass is of the field and its front has no entry more, and no attempt more was begun
pub record BeginsNone (f : FieldView) (p q : PassState) : Type 0 where
  pub of : IsPassOf f q
  pub front : (tag : ℕ) → Stops tag (front_in p) (front_in q)
  pub begun : begun_by q ≡ begun_by p
  pub none : BeginsNot store p f.origin q

-- a transaction began with this pass, and has no acts yet
pub record IsBegun (p : PassState) (t : TxnState) : Type 0 where
  pub begins : BeginsTransaction p t.hand.tag t
  pub going : IsGoing store t []

-- its state, and its acts so far
abbrev pub state_of : Running → TxnState
state_of r = r.now

abbrev pub acts_of : Running → List Act
acts_of r = r.now.hand.acts

-- it began with a pass of its field, and goes on since, with this refusal; its field and its tag are those of its begin
pub record HasRun (r : Running) : Type 0 where
  pub of : IsPassOf r.kept.field r.kept.before
  pub running : IsRunning r.kept.before r.now r.refused
  pub field : r.now.field ≡ r.kept.field
  pub tagged : r.now.hand.tag ≡ r.kept.tag

-- a transaction that began as t with this pass made calls, and stands as u: it ran so
pub record Ran (before : PassState) (t u : TxnState) (r : Running) : Type 0 where
  pub run : HasRun r
  pub now : u ≡ r.now
  pub same : r.kept.before ≡ before
  pub field : r.kept.field ≡ t.field
  pub tag : r.kept.tag ≡ t.hand.tag

-- it ended as an attempt of a body that makes just its acts: all of them took effect as the last entry of the history that
-- the pass has seen, or none
abbrev pub EndsAs : {R : Type 0} → Running → (after : PassState) → Attempt R → Type 0
EndsAs r after result = IsAttempted r.kept.field r.kept.before after r.kept.tag (λ acts _. acts ≡ acts_of r) (λ acts. acts ≡ acts_of r) result

-- it didn't commit, with a conflict that shows why
abbrev pub Loses : Running → (after : PassState) → Shown → Type 0
Loses r after shown = let stopped : Attempt (Unit {0}) = IsStopped (Conflict shown) in EndsAs r after stopped

-- it was abandoned: it took no effect, the front of its pass has no entry more, and its nodes are in their lanes again. If
-- one of its calls was refused, that has its cause, and a pass that held all lanes met no conflict
pub record IsAbandoned (r : Running) (after : PassState) : Type 0 where
  pub of : IsPassOf r.kept.field after
  pub stops : Stops r.kept.tag (front_in r.kept.before) (front_in after)
  pub legal : LegalFrom (start_of r.kept.field) (front_in after)
  pub begun : begun_by after ≡ begun_by r.kept.before + 1
  pub stopped : Stopped store r.now after
  pub cause : (refusal : Refusal) → r.refused ≡ Some refusal → HasCause r.now refusal.stop
  pub may_stop : (refusal : Refusal) → r.refused ≡ Some refusal → MayStop refusal.stop
  pub alone : (refusal : Refusal) → r.refused ≡ Some refusal → (front_in r.kept.before).lanes ≡ all_lanes r.kept.field.origin.shape
      → IsNoConflict refusal.stop

-- what is so of such a transaction: it may begin, or none began; without a refusal it may become ready; it was committed
-- or lost as an attempt is, or abandoned; and one that was left leaves a pass of the field
pub record EndLaws : Type 0 where
  pub begun : (p : PassState) (tag : ℕ) (t : TxnState) → BeginsTransaction p tag t → IsGoing store t [] → IsBegun p t
  pub none : (f : FieldView) (p q : PassState) → IsPassOf f p → BeginsNot store p f.origin q → BeginsNone f p q
  pub going : (r : Running) → HasRun r → r.refused ≡ None → (r.now.stop ≡ None) × (r.now.hand.operating ≡ false)
  pub committed : (r : Running) → HasRun r → r.refused ≡ None → (q : PassState) → WasCommitted store r.now q
      → (let done : Attempt (Unit {0}) = Committed tt in EndsAs r q done)
  pub lost : (r : Running) → HasRun r → r.refused ≡ None → (q : PassState) (shown : Shown) → WasLost store r.now q shown → Loses r q shown
  pub abandoned : (r : Running) → HasRun r → (q : PassState) → Stopped store r.now q → IsAbandoned r q
  pub left : (r : Running) → HasRun r → (q : PassState) → q ≡ r.now.pass → IsPassOf r.kept.field q
