-- What passes know of the attempts that they have in hand.
use Rattle.std.specs.Prelude.{◌≡◌, ℕ, true, List, ◌∷◌, Some, Contains}
use mathlib.Core.Option.{some}
use lib.ListN.{get_elem?}
use Rattle.md_words.specs.declared.shape.Shape.{Shape}
use Rattle.md_words.specs.Status.{status_of, serial_of}
use Rattle.md_words.specs.Place.{desc_status}
use Rattle.md_words.specs.Layout.{address}
use Rattle.md_words.specs.Lanes.{lane_of_desc}
use Rattle.md_history.specs.declared.entries.Fate.{Fate}
use Rattle.md_machine.specs.declared.attempt.AttemptId.{AttemptId}
use Rattle.md_machine.specs.declared.attempt.Hand.{Hand}
use Rattle.md_machine.specs.declared.attempt.HistoryEntry.{HistoryEntry}
use Rattle.md_machine.specs.declared.pass.PassView.{PassView}
use Rattle.md_machine.specs.Machine.{same_attempt, was_begun}
use Rattle.md_machine.specs.Trail.{Meets, SomeStepOf}
use Rattle.md_machine.specs.events.Start.{is_decided}
use Rattle.md_machine.specs.events.Uninstall.{IsDecided}

-- each entry of an attempt has a decided fate
abbrev pub AllDecidedOf : AttemptId → List HistoryEntry → List Fate → Type 0
AllDecidedOf a (e ∷ es) (f ∷ fs) = (same_attempt e.attempt a ≡ true → is_decided f ≡ true) × AllDecidedOf a es fs
AllDecidedOf a _ _ = Unit {0}

-- a step of the pass found or left the attempt decided
abbrev pub MetDecided : Shape → PassView → AttemptId → (status : ℕ) → Type 0
MetDecided shape p a status = (serial_of status ≡ a.serial) × IsDecided (status_of status) × SomeStepOf p (Meets (address shape (desc_status a.desc)) status)

-- what a pass has in hand is pending; and if it met that attempt decided, it knows its entry to be decided
pub record HandKnows (shape : Shape) (p : PassView) (h : Hand) : Type 0 where
  pub pending : was_begun p.pending h.attempt ≡ true
  pub knows : (status : ℕ) → MetDecided shape p h.attempt status → AllDecidedOf h.attempt p.seen p.known

-- so it is of every hand, and what is pending is of the pass's lanes
pub record HandsKnow (shape : Shape) (passes : List PassView) : Type 0 where
  pub hands : (pass : ℕ) (p : PassView) (h : Hand) → get_elem? passes pass ≡ some p → p.hand ≡ Some h → HandKnows shape p h
  pub own : (pass : ℕ) (p : PassView) (a : AttemptId) → get_elem? passes pass ≡ some p → Contains p.pending a → Contains p.lanes (lane_of_desc shape a.desc)
