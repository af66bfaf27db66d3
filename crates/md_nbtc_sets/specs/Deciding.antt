-- A transaction that is decided, as contracts see it.
use Rattle.std.specs.Prelude.{◌≡◌, ◌<◌, ◌≤◌, ℕ, List, None, Some, All, length, map}
use Rattle.md_words.specs.declared.limits.TheConstants.{SET}
use Rattle.md_words.specs.declared.shape.Shape.{Shape}
use Rattle.md_words.specs.declared.status.Status.TheVariants.{Committed, InProg}
use Rattle.md_words.specs.Layout.{desc_count}
use Rattle.md_words.specs.Status.{serial_of, status_of}
use Rattle.md_machine.specs.declared.attempt.AttemptId.{AttemptId}
use Rattle.md_machine.specs.declared.pass.PassView.{PassView}
use Rattle.md_machine.specs.Meaning.{Meaning}
use Rattle.md_machine.specs.Stepping.{attempt_in_hand}
use Rattle.md_rule.specs.Views.{FieldView, Origin, PassState}
use Rattle.md_help.specs.Settles.{MetStatus}
use Rattle.md_nbtc_law.specs.declared.slots.Slot.{Slot}
use Rattle.md_nbtc_law.specs.Deciding.{MayCleanSlot}
use Rattle.md_nbtc_law.specs.State.{TxnState, state_of}
use Rattle.md_nbtc_law.specs.Withdrawing.{AreInstalled, HasFate}
use Rattle.md_nbtc_sets.specs.declared.sets.Sets.{Sets}

-- the state of a transaction that hasn't stopped, by what it keeps, its attempt and its tag
abbrev pub state_by : FieldView → (pass began : PassState) → Sets → AttemptId → (tag : ℕ) → TxnState
state_by field pass began sets a tag = state_of field pass began sets.reads sets.slots None a.desc a.serial tag sets.lots

-- the attempt in hand is in progress: its descriptor exists, and a step of the last segment met this status of it
pub record IsInProgress (shape : Shape) (view : PassView) (a : AttemptId) (status : ℕ) : Type 0 where
  pub exists : a.desc < desc_count shape
  pub hand : attempt_in_hand view.hand ≡ Some a
  pub met : MetStatus shape view a.desc status
  pub ready : status_of status ≡ InProg
  pub serial : serial_of status ≡ a.serial

-- the attempt in hand is committed, its slots name the words in which it stands, and the cleanups that they keep fit
pub record MayFinish (M : Meaning) (o : Origin) (view : PassView) (a : AttemptId) (slots : List Slot) : Type 0 where
  pub fate : HasFate o.shape view a Committed
  pub installed : AreInstalled o.shape view a (map (λ s. s.write) slots)
  pub may : All (MayCleanSlot M o view) slots
  pub few : length slots ≤ SET
