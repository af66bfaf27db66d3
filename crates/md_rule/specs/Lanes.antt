-- The lanes that a pass may hold.
use Rattle.std.specs.Prelude.{◌≡◌, ◌<◌, ◌≤◌, ℕ, false, List, length}
use Rattle.md_words.specs.declared.shape.Shape.{Shape}
use Rattle.md_history.specs.Front.{is_lane_of}
use Rattle.md_machine.specs.clauses.passes.Lanes.{RiseFrom}

-- one at least, lanes of the shape alone, in rising order
pub record AreLanes (shape : Shape) (lanes : List ℕ) : Type 0 where
  pub live : 0 < length lanes
  pub below : (lane : ℕ) → shape.lanes ≤ lane → is_lane_of lanes lane ≡ false
  pub rising : RiseFrom 0 lanes
