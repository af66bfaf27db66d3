-- A caller's turn: what it asks for, what it leaves, and when it ends.
use Rattle.std.specs.Prelude.{◌≡◌, ◌<◌, ◌≤◌, ◌+◌, ◌-◌, ◌*◌, ◌^◌, ℕ, min, List, [], ◌∷◌, length, Vec, vec_capacity, Result, IfOk, OnErr}
use Rattle.std.specs.declared.alloc.AllocError.{AllocError}
use Rattle.std.specs.declared.alloc.Global.{Global}
use Rattle.md_history.specs.declared.engines.Engine.{Ghosts as EngineWords}
use Rattle.md_history.specs.declared.stops.Shown.{Shown}
use Rattle.md_history.specs.declared.stops.Stop.TheVariants as stop
use Rattle.md_history.specs.Attempt.{Stops}
use Rattle.md_history.specs.State.{State}
use Rattle.md_history.specs.Engine.{bounds_in}
use Rattle.md_many_attempts.specs.declared.attempts.Turn.{Turn}
use Rattle.md_many_attempts.specs.declared.attempts.End.{End}
use Rattle.md_many_attempts.specs.declared.attempts.End.TheVariants.{Lines, Attempts, Limit, Conflicts}
use Rattle.md_many_attempts.specs.declared.attempts.TheConstants.{MOST_CONFLICTS}
use Rattle.md_many_attempts.specs.Joined.{entries_after}
use Rattle.md_many_attempts.specs.Lines.{AreFitting, IsSmallLine, PlaysLines, StopsForMemory}
use Rattle.md_many_attempts.specs.Meaning.{Meaning}
use Rattle.md_many_attempts.specs.Tags.{tag_of}

-- the most lines that a caller can play in a turn
abbrev pub most_lines : {B R : Type 0} → Meaning B R → Turn → ℕ
most_lines m turn = min turn.attempts (m.line_count turn.caller - turn.done)

-- a turn can be played over a store that begins in a state: its lines may run there, and the caller has played no more
-- lines than it has
pub record CanPlayTurn {B R : Type 0} (m : Meaning B R) (start : State) (turn : Turn) : Type 0 where
  pub fits : AreFitting m start
  pub done : turn.done ≤ m.line_count turn.caller

-- a list is empty, and has room for a reply to each line that the turn can play
pub record IsRoomFor {B R : Type 0} (m : Meaning B R) (turn : Turn) (replies : Vec R Global) : Type 0 where
  pub empty : replies.items ≡ []
  pub room : most_lines m turn ≤ vec_capacity replies

-- a pass is still of the engine, with the same lanes and the same attempts pending
pub record HoldsAsBefore {E P : Type 0} (e : EngineWords E P) (engine : E) (old new : P) : Type 0 where
  pub of : e.of engine new
  pub lanes : (e.front new).lanes ≡ (e.front old).lanes
  pub pending : (e.front new).pending ≡ (e.front old).pending

-- a pass began an attempt at least for each line that was played, and no more than the turn has, nor more than so many
-- for each line and after the last one
pub record IsWithinAttempts (turn : Turn) (played begun begun' : ℕ) : Type 0 where
  pub each : begun + played ≤ begun'
  pub most : begun' ≤ begun + turn.attempts
  pub few : begun' ≤ begun + MOST_CONFLICTS * (played + 1)

-- From one state of a pass to another a turn was played, with these replies: the lanes committed the caller's next
-- lines, and no more than there are; they made no more attempts than the turn has; and the gate was told of each line.
pub record PlaysTurn {E P B R : Type 0} (e : EngineWords E P) (m : Meaning B R) (told : ℕ → ℕ → Type 0) (turn : Turn)
    (old new : P) (replies : List R) : Type 0 where
  pub lines : PlaysLines m turn.caller turn.done (e.front old).lanes (e.front old) (e.front new) replies
  pub within : turn.done + length replies ≤ m.line_count turn.caller
  pub few : turn.done + length replies < 2 ^ 32
  pub attempts : length (entries_after (length (e.front old).seen) (e.front old).lanes (e.front new)) ≤ turn.attempts
  pub begun : IsWithinAttempts turn (length replies) (e.begun old) (e.begun new)
  pub gate : (line : ℕ) → turn.done < line → line ≤ turn.done + length replies → told turn.caller line

-- a turn played so many lines at least: one, if the pass was fresh and its first line is small; and as many as it can,
-- if attempts stop for memory alone
pub record PlaysEnough {E P B R : Type 0} (e : EngineWords E P) (engine : E) (m : Meaning B R) (turn : Turn) (old : P)
    (played : ℕ) : Type 0 where
  pub first : e.fresh engine old → 1 ≤ (e.limits engine).tries
      → IsSmallLine (bounds_in (e.limits engine)) m turn.caller (turn.done + 1) (e.start engine)
      → 1 ≤ most_lines m turn → 1 ≤ played
  pub steady : StopsForMemory (e.may_stop engine) → played ≡ most_lines m turn

-- What was played of a caller's turn: over an engine, of lines with a meaning, from one state of a pass to another, with
-- these replies.
pub record Stretch (E P B R : Type 0) : Type 1 where
  pub words : EngineWords E P
  pub engine : E
  pub meaning : Meaning B R
  pub turn : Turn
  pub old : P
  pub new : P
  pub replies : List R

abbrev pub stretch : {E P B R : Type 0} → EngineWords E P → E → Meaning B R → Turn → P → P → List R → Stretch E P B R
stretch words engine meaning turn old new replies = record {
  words = words;
  engine = engine;
  meaning = meaning;
  turn = turn;
  old = old;
  new = new;
  replies = replies;
}

-- an attempt with a tag met a conflict, as the engine's may: it was begun, and took no effect
pub record StopsByConflict {E P : Type 0} (e : EngineWords E P) (engine : E) (tag : ℕ) (old new : P) : Type 0 where
  pub shown : Shown
  pub may : e.may_stop engine (stop.Conflict shown)
  pub stops : Stops tag (e.front old) (e.front new)
  pub begun : e.begun new ≡ e.begun old + 1

-- attempts with a tag, one after another, each met a conflict: the list has the pass after each of them
abbrev pub AllStopByConflict : {E P : Type 0} → EngineWords E P → E → ℕ → P → List P → P → Type 0
AllStopByConflict e engine tag old [] new = new ≡ old
AllStopByConflict e engine tag old (next ∷ later) new =
    StopsByConflict e engine tag old next × AllStopByConflict e engine tag next later new

-- All lines of a stretch had been played at a point. So many attempts were made from there on, at the line that follows,
-- and each of them met a conflict.
pub record HasTriedInVain {E P B R : Type 0} (s : Stretch E P B R) (conflicts : ℕ) : Type 0 where
  pub point : P
  pub of : s.words.of s.engine point
  pub played : PlaysLines s.meaning s.turn.caller s.turn.done (s.words.front s.old).lanes (s.words.front s.old)
      (s.words.front point) s.replies
  pub after : List P
  pub count : length after ≡ conflicts
  pub each : AllStopByConflict s.words s.engine (tag_of s.turn.caller (s.turn.done + length s.replies + 1)) point after
      s.new

-- Why a turn ended: the caller has no line left; the turn has no attempt left; the engine's limit may come; or its last
-- attempts, so many in a row, each met a conflict.
abbrev pub EndsBy : {E P B R : Type 0} → Stretch E P B R → End → Type 0
EndsBy s Lines = s.turn.done + length s.replies ≡ s.meaning.line_count s.turn.caller
EndsBy s Attempts = s.words.begun s.new ≡ s.words.begun s.old + s.turn.attempts
EndsBy s (Limit limit) = s.words.may_stop s.engine (stop.Limit limit)
EndsBy s Conflicts = HasTriedInVain s MOST_CONFLICTS

-- of a turn, `Ok` says why it ended, and `Err` that the engine may run out of memory
pub record EndsTurn {E P B R : Type 0} (s : Stretch E P B R) (result : Result End AllocError) : Type 0 where
  pub end : IfOk result (EndsBy s)
  pub no_memory : OnErr result (s.words.may_stop s.engine stop.NoMemory)
