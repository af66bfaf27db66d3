-- How an engine is closed at the end of rounds.
use Rattle.std.specs.Prelude.{◌≡◌, List, [], ◌∷◌, ◌++◌}
use Rattle.md_history.specs.declared.engines.Engine.{Ghosts as EngineWords}
use Rattle.md_history.specs.State.{State}
use Rattle.md_history.specs.Front.{Front, replay_of}
use Rattle.md_history.specs.Engine.{SettlesFrom}

-- a pass is of the engine, and holds all its lanes
pub record HoldsAllLanes {E P : Type 0} (e : EngineWords E P) (engine : E) (pass : P) : Type 0 where
  pub of : e.of engine pass
  pub all : (e.front pass).lanes ≡ e.lanes engine

-- An engine that starts in this state, and whose pass has this front, was closed behind the fronts of earlier engines: its
-- last front settles that of its pass and stands behind the others, and the contents are what it leaves.
pub record IsClosed (start : State) (before : List Front) (f : Front) (fronts : List Front) (contents : State) : Type 0 where
  pub last : Front
  pub settled : SettlesFrom start f last
  pub behind : fronts ≡ before ++ last ∷ []
  pub replay : contents ≡ replay_of start last

-- however it is closed, this holds of all fronts and of the contents
abbrev pub ClosesTo : (start : State) (before : List Front) (f : Front) → (List Front → State → Type 0) → Type 0
ClosesTo start before f P = (fronts : List Front) (contents : State) → IsClosed start before f fronts contents → P fronts contents
