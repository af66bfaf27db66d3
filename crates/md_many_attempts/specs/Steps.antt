-- One attempt of a turn: what it leaves, and what follows a stop.
use Rattle.std.specs.Prelude.{◌≡◌, ◌<◌, ◌≤◌, ◌+◌, ℕ, Some, List, [], ◌∷◌, ◌++◌}
use Rattle.md_history.specs.declared.engines.Engine.{Ghosts as EngineWords}
use Rattle.md_history.specs.declared.stops.Shown.{Shown}
use Rattle.md_history.specs.declared.stops.Stop.{Stop}
use Rattle.md_history.specs.declared.stops.Stop.TheVariants as stop
use Rattle.md_history.specs.State.{State}
use Rattle.md_history.specs.Attempt.{Commits, Stops, CountsStop}
use Rattle.md_history.specs.Engine.{bounds_in}
use Rattle.md_many_attempts.specs.Tags.{tag_of}
use Rattle.md_many_attempts.specs.declared.attempts.End.{End}
use Rattle.md_many_attempts.specs.declared.attempts.End.TheVariants.{Lines, Attempts, Limit, Conflicts}
use Rattle.md_many_attempts.specs.declared.attempts.TheConstants.{MOST_CONFLICTS}
use Rattle.md_many_attempts.specs.declared.steps.Place.{Place}
use Rattle.md_many_attempts.specs.Lines.{AreFitting, IsSmallLine}
use Rattle.md_many_attempts.specs.Meaning.{Meaning}

-- there is a line at a place, and lines may run over a store that begins in a state
pub record CanAttempt {B R : Type 0} (m : Meaning B R) (start : State) (place : Place) : Type 0 where
  pub fits : AreFitting m start
  pub from_1 : 1 ≤ place.line
  pub there : place.line ≤ m.line_count place.caller

-- an attempt at a line was committed: its reply stands behind those before, and the gate was told of it
pub record AddsLine {E P B R : Type 0} (e : EngineWords E P) (m : Meaning B R) (told : ℕ → ℕ → Type 0) (place : Place)
    (old new : P) (replies replies' : List R) : Type 0 where
  pub body : B
  pub there : Some body ≡ m.body_at place.caller place.line
  pub reply : R
  pub commits : Commits (m.did body) (tag_of place.caller place.line) reply (e.front old) (e.front new)
  pub counted : e.begun new ≡ e.begun old + 1
  pub more : replies' ≡ replies ++ reply ∷ []
  pub told_of_it : told place.caller place.line

-- an attempt at a line stopped, as the engine's may; if the pass was fresh and the line is small, then for memory alone
pub record StopsAt {E P B R : Type 0} (e : EngineWords E P) (engine : E) (m : Meaning B R) (place : Place) (old new : P)
    (s : Stop) : Type 0 where
  pub stops : Stops (tag_of place.caller place.line) (e.front old) (e.front new)
  pub counted : CountsStop s (e.begun old) (e.begun new)
  pub may : e.may_stop engine s
  pub small : e.fresh engine old → 1 ≤ (e.limits engine).tries
      → IsSmallLine (bounds_in (e.limits engine)) m place.caller place.line (e.start engine) → s ≡ stop.NoMemory

-- it met a conflict, one more in a row, and they are too few to end the turn
pub record IsAnotherConflict (s : Stop) (conflicts conflicts' : ℕ) : Type 0 where
  pub shown : Shown
  pub met : s ≡ stop.Conflict shown
  pub more : conflicts' ≡ conflicts + 1
  pub few : conflicts' < MOST_CONFLICTS

-- a stop after so many conflicts in a row ends the turn, for this reason
abbrev pub EndsOn : Stop → ℕ → End → Type 0
EndsOn s conflicts Lines = ⊥
EndsOn s conflicts Attempts = ⊥
EndsOn s conflicts (Limit limit) = s ≡ stop.Limit limit
EndsOn s conflicts Conflicts = ((shown : Shown) × (s ≡ stop.Conflict shown)) × (conflicts + 1 ≡ MOST_CONFLICTS)
