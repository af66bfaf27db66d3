-- Contents that have only a part of others: the maps from a number on.
use Rattle.std.specs.Prelude.{◌≡◌, ◌<◌, ◌≤◌, ℕ, []}
use Rattle.std.specs.FinMap as fin
use Rattle.md_history.specs.State.{HaveSameNumbers, State, map_at, queue_at}

-- the part has as many maps and queues as the whole, and the maps from a number on; its other maps and its queues are
-- empty
pub record MapsFrom (first : ℕ) (part whole : State) : Type 0 where
  pub numbers : HaveSameNumbers part whole
  pub maps : (map : ℕ) → first ≤ map → map_at part map ≡ map_at whole map
  pub others : (map : ℕ) → map < first → map_at part map ≡ fin.empty
  pub queues : (queue : ℕ) → queue_at part queue ≡ []
