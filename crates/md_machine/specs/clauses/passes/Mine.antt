-- What passes answered as committed.
use Rattle.std.specs.Prelude.{◌≡◌, ◌==◌, ◌&&◌, not, ℕ, Bool, true, false, List, [], ◌∷◌, Contains, if◌then◌else◌}
use mathlib.Core.Option.{some}
use lib.ListN.{get_elem?}
use Rattle.md_history.specs.declared.entries.Entry.{Entry}
use Rattle.md_history.specs.declared.entries.Fate.{Fate}
use Rattle.md_history.specs.Front.{of_lane}
use Rattle.md_machine.specs.declared.attempt.AttemptId.{AttemptId}
use Rattle.md_machine.specs.declared.attempt.HistoryEntry.{HistoryEntry}
use Rattle.md_machine.specs.declared.pass.PassView.{PassView}
use Rattle.md_machine.specs.Machine.{was_begun}
use Rattle.md_machine.specs.Resolution.{is_committed}
use Rattle.md_machine.specs.events.Start.{is_decided}

-- an entry of the lane is committed, and its attempt is none of these
abbrev pub is_ended : (lane : ℕ) → List AttemptId → HistoryEntry → Fate → Bool
is_ended lane pending e f = (lane == e.entry.lane) && (not (was_begun pending e.attempt) && is_committed f)

-- such entries, in the history's order
abbrev pub ended_of : ℕ → List AttemptId → List HistoryEntry → List Fate → List Entry
ended_of lane pending (e ∷ es) (f ∷ fs) = if is_ended lane pending e f then e.entry ∷ ended_of lane pending es fs else ended_of lane pending es fs
ended_of lane pending _ _ = []

-- each entry of the lanes has a decided fate, if its attempt is none of these
abbrev pub AllEndedDecided : List ℕ → List AttemptId → List HistoryEntry → List Fate → Type 0
AllEndedDecided lanes pending (e ∷ es) (f ∷ fs) =
    (Contains lanes e.entry.lane → was_begun pending e.attempt ≡ false → is_decided f ≡ true) × AllEndedDecided lanes pending es fs
AllEndedDecided lanes pending _ _ = Unit {0}

-- of each of these lanes the committed entries were answered whose attempts aren't pending, in the history's order, and of
-- other lanes none; and those of these lanes that aren't pending are known to be decided
pub record MineIsEnded (lanes : List ℕ) (seen : List HistoryEntry) (known : List Fate) (answers : List Entry) (pending : List AttemptId) : Type 0 where
  pub mine : (lane : ℕ) → Contains lanes lane → of_lane lane answers ≡ ended_of lane pending seen known
  pub outside : (lane : ℕ) → (Contains lanes lane → ⊥) → of_lane lane answers ≡ []
  pub decided : AllEndedDecided lanes pending seen known

-- so it is of each pass
abbrev pub MineAreEnded : List PassView → Type 0
MineAreEnded passes = (pass : ℕ) (p : PassView) → get_elem? passes pass ≡ some p → MineIsEnded p.lanes p.seen p.known p.mine p.pending
