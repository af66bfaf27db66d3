-- Batches of a turn, and conflicts in a row from batch to batch.
use Rattle.std.specs.Prelude.{◌≡◌, ◌<◌, ◌≤◌, ◌+◌, ◌*◌, ◌⊎◌, ℕ, List, [], length, Result, IfOk, OnErr}
use Rattle.std.specs.declared.alloc.AllocError.{AllocError}
use Rattle.md_history.specs.declared.stops.Stop.TheVariants as stop
use Rattle.md_history.specs.State.{State}
use Rattle.md_many_attempts.specs.declared.attempts.Batch.{Batch}
use Rattle.md_many_attempts.specs.declared.attempts.End.{End}
use Rattle.md_many_attempts.specs.declared.attempts.End.TheVariants.{Lines, Attempts, Limit, Conflicts}
use Rattle.md_many_attempts.specs.declared.attempts.TheConstants.{MOST_CONFLICTS}
use Rattle.md_many_attempts.specs.declared.pauses.Streak.{Streak}
use Rattle.md_many_attempts.specs.Meaning.{Meaning}
use Rattle.md_many_attempts.specs.Tags.{tag_of}
use Rattle.md_many_attempts.specs.Turns.{AllStopByConflict, CanPlayTurn, HasTriedInVain, Stretch}

-- a batch can be played over a store that begins in a state, and the conflicts in a row before it didn't end the turn
pub record CanPlayBatch {B R : Type 0} (m : Meaning B R) (start : State) (batch : Batch) : Type 0 where
  pub turn : CanPlayTurn m start batch.turn
  pub few : batch.streak.conflicts < MOST_CONFLICTS

-- with so many conflicts in a row before it, a batch began no more attempts than these for each line that it played and
-- after the last one
abbrev pub BeginsFew : ℕ → ℕ → ℕ → ℕ → Type 0
BeginsFew before begun begun' played = before + begun' ≤ begun + MOST_CONFLICTS * (played + 1)

-- A batch played no line. Each of its attempts met a conflict; with those before it, so many came in a row.
pub record HasPlayedNone {E P B R : Type 0} (s : Stretch E P B R) (before conflicts : ℕ) : Type 0 where
  pub none : s.replies ≡ []
  pub after : List P
  pub count : before + length after ≡ conflicts
  pub each : AllStopByConflict s.words s.engine (tag_of s.turn.caller (s.turn.done + 1)) s.old after s.new

-- so many conflicts came in a row up to the end of a batch: since its last line, or with those before it
abbrev pub HasTriedSince : {E P B R : Type 0} → Stretch E P B R → (before conflicts : ℕ) → Type 0
HasTriedSince s before conflicts = HasPlayedNone s before conflicts ⊎ HasTriedInVain s conflicts

-- a batch has made all its attempts, and the conflicts in a row at its end didn't end the turn
pub record HasMadeAllAttempts {E P B R : Type 0} (s : Stretch E P B R) (before conflicts : ℕ) : Type 0 where
  pub all : s.words.begun s.new ≡ s.words.begun s.old + s.turn.attempts
  pub in_row : HasTriedSince s before conflicts
  pub few : conflicts < MOST_CONFLICTS
  pub most : before + s.words.begun s.new ≤ s.words.begun s.old + MOST_CONFLICTS * length s.replies + conflicts

-- Why a batch ended, and how many conflicts came in a row then: as a turn ends (`EndsBy`), but that conflicts in a row
-- are counted from those before the batch.
abbrev pub BatchEndsBy : {E P B R : Type 0} → Stretch E P B R → (before : ℕ) → End → (conflicts : ℕ) → Type 0
BatchEndsBy s before Lines conflicts = s.turn.done + length s.replies ≡ s.meaning.line_count s.turn.caller
BatchEndsBy s before Attempts conflicts = HasMadeAllAttempts s before conflicts
BatchEndsBy s before (Limit limit) conflicts = s.words.may_stop s.engine (stop.Limit limit)
BatchEndsBy s before Conflicts conflicts = HasTriedSince s before MOST_CONFLICTS

-- A batch began few attempts. `Ok` says why it ended, and `Err` that the engine may run out of memory.
pub record EndsBatch {E P B R : Type 0} (s : Stretch E P B R) (before : ℕ) (result : Result (End × Streak) AllocError)
    : Type 0 where
  pub few : BeginsFew before (s.words.begun s.old) (s.words.begun s.new) (length s.replies)
  pub end : IfOk result (λ r. BatchEndsBy s before r.0 r.1.conflicts)
  pub no_memory : OnErr result (s.words.may_stop s.engine stop.NoMemory)
