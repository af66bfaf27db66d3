-- What the parts of a transaction's ending tell one another.
use Rattle.std.specs.Prelude.{◌≡◌, ◌<◌, ◌≤◌, ℕ, true, length, List, [], ◌∷◌, Contains, All, Some}
use Rattle.std.specs.List.{AllZip}
use Rattle.md_words.specs.declared.shape.Shape.{Shape}
use Rattle.md_words.specs.declared.status.Status.{Status}
use Rattle.md_words.specs.declared.status.Status.TheVariants.{Committed}
use Rattle.md_words.specs.Content.{count_of, value_of}
use Rattle.md_words.specs.Layout.{IsInSet, IsNode, address}
use Rattle.md_words.specs.Place.{desc_status, node_next, slot_new, slot_old}
use Rattle.md_words.specs.PlaceAt.{IsCounted}
use Rattle.md_words.specs.Status.{serial_of, status_of}
use Rattle.md_machine.specs.declared.attempt.AttemptId.{AttemptId}
use Rattle.md_machine.specs.declared.attempt.Write.{Write}
use Rattle.md_machine.specs.declared.pass.PassView.{PassView}
use Rattle.md_machine.specs.declared.step.Step.{Step}
use Rattle.md_machine.specs.Event.{Acts}
use Rattle.md_machine.specs.Machine.{Machine}
use Rattle.md_machine.specs.Meaning.{Meaning}
use Rattle.md_machine.specs.Own.{HasDesc}
use Rattle.md_machine.specs.Resolution.{always_placed}
use Rattle.md_machine.specs.Stepping.{attempt_in_hand}
use Rattle.md_machine.specs.Trail.{EveryStepOf, LastStored, Meets, SomeStep}
use Rattle.md_machine.specs.events.Install.{MayBeChanged, installed_word}
use Rattle.md_machine.specs.events.Start.{IsClean, WonInstall}
use Rattle.md_machine.specs.events.Uninstall.{IsDecided}
use Rattle.md_rule.specs.Admitted.{Admitted}
use Rattle.md_rule_lanes.specs.Shares.{MayReturn, share_at}
use Rattle.md_rule.specs.Views.{Origin, PassState}
use Rattle.md_help.specs.After.{IsAfter}
use Rattle.md_help.specs.Clears.{TakesOut}
use Rattle.md_nbtc_law.specs.declared.slots.Lot.{Lot}
use Rattle.md_nbtc_law.specs.Prepared.{InstallsFrom}

-- a pass has the attempt in hand, and met it decided with this fate
pub record HasFate (shape : Shape) (view : PassView) (a : AttemptId) (fate : Status) : Type 0 where
  pub held : attempt_in_hand view.hand ≡ Some a
  pub own : HasDesc shape view a.desc
  pub decided : IsDecided fate
  pub status : ℕ
  pub serial : serial_of status ≡ a.serial
  pub is : status_of status ≡ fate
  pub met : SomeStep (Meets (address shape (desc_status a.desc)) status) view.trail

-- a step met the attempt with this fate
abbrev pub MeetsFate : Shape → AttemptId → Status → Step → Type 0
MeetsFate shape a fate s = (status : ℕ) × Meets (address shape (desc_status a.desc)) status s × (serial_of status ≡ a.serial) × (status_of status ≡ fate)

-- what a write left in its word where it was installed
abbrev pub installed_in : AttemptId → Write → ℕ
installed_in a w = installed_word w.old (record { desc = a.desc; slot = w.slot })

-- a write was stored in its slot of the attempt, and installed in its word
pub record IsInstalled (shape : Shape) (view : PassView) (a : AttemptId) (w : Write) : Type 0 where
  pub counted : IsCounted shape w.word
  pub exists : IsInSet shape a.desc w.slot
  pub from : MayBeChanged w.old
  pub installed : SomeStep (InstallsFrom a w) view.trail
  pub old : LastStored view a (address shape (slot_old a.desc w.slot)) w.old
  pub new : LastStored view a (address shape (slot_new a.desc w.slot)) w.new

-- each of some writes was, and each install that the pass won for the attempt is of one of them
pub record AreInstalled (shape : Shape) (view : PassView) (a : AttemptId) (writes : List Write) : Type 0 where
  pub each : All (IsInstalled shape view a) writes
  pub all : EveryStepOf view (λ s. WonInstall a s → (w : Write) × Contains writes w × InstallsFrom a w s)

-- what a fate makes of a write's word: the new value after Committed, else that of the old content
abbrev pub taken_value : Status → Write → ℕ
taken_value Committed w = w.new
taken_value _ w = value_of w.old

-- a step takes a write out of its word, or finds that it isn't there any more
abbrev pub TakesWrite : AttemptId → Status → Write → Step → Type 0
TakesWrite a fate w s = TakesOut w.word (installed_in a w) (taken_value fate w) s.after s

-- a node is placed, whatever becomes of the undecided, in every machine of the field in which a pass stands so
abbrev pub IsAlwaysPlaced : Meaning → Origin → PassView → (node : ℕ) → Type 0
IsAlwaysPlaced M o view node = (m : Machine) → Admitted M o m → (pass : ℕ) → Acts m pass view → always_placed m node ≡ true

-- one write was taken out by one step, which left or found this in the word; its count is higher. The step is flagged if
-- the word is the next word of such a node
pub record TakesWriteOut (M : Meaning) (o : Origin) (a : AttemptId) (fate : Status) (w : Write) (left : ℕ) (before after : PassView) : Type 0 where
  pub step : Step
  pub goes : IsAfter o.shape (step ∷ []) before after
  pub takes : TakesWrite a fate w step
  pub leaves : step.after ≡ left
  pub higher : count_of (installed_in a w) < count_of left
  pub flagged : (node : ℕ) → IsNode o.shape node → w.word ≡ address o.shape (node_next node) → IsAlwaysPlaced M o before node → step.placed ≡ true

-- each of some writes was taken out by one step, in order. The attempt stands in no word any more
pub record TakesWritesOut (shape : Shape) (a : AttemptId) (fate : Status) (writes : List Write) (before after : PassView) : Type 0 where
  pub steps : List Step
  pub goes : IsAfter shape steps before after
  pub each : AllZip (TakesWrite a fate) writes steps
  pub clean : IsClean after a

-- the nodes of a lane from a first one on may be given back
pub record MayGiveLotBack (p : PassState) (lot : Lot) : Type 0 where
  pub held : Contains p.view.lanes lot.lane
  pub first : lot.first ≤ (share_at p.shares lot.lane).nodes_taken
  pub most : (share_at p.shares lot.lane).nodes_taken ≤ p.shape.nodes
  pub free : MayReturn p.shape p.view lot.lane lot.first (share_at p.shares lot.lane).nodes_taken

-- each node that was taken since may be given back
abbrev pub MayGiveBack : (began now : PassState) → Type 0
MayGiveBack began now = (lane : ℕ) → Contains now.view.lanes lane
    → MayReturn now.shape now.view lane (share_at began.shares lane).nodes_taken (share_at now.shares lane).nodes_taken

-- they were given back: of each lane as many are taken as then. Nothing else is changed
pub record HasBack (began before after : PassState) : Type 0 where
  pub same : after ≡ record before { shares = after.shares }
  pub size : length after.shares ≡ length before.shares
  pub shares : (lane : ℕ) → share_at after.shares lane ≡ record (share_at before.shares lane) { nodes_taken = (share_at began.shares lane).nodes_taken }
