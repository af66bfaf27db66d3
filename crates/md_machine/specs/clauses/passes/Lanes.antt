-- Who holds the lanes.
use Rattle.std.specs.Prelude.{◌≡◌, ◌+◌, ◌<◌, ◌≤◌, ℕ, List, [], ◌∷◌, Contains}
use lib.ListN.{get_elem?}
use mathlib.Core.Option.{some}
use Rattle.md_words.specs.declared.shape.Shape.{Shape}
use Rattle.md_machine.specs.declared.pass.PassView.{PassView}

-- numbers rise, from this one on
abbrev pub RiseFrom : ℕ → List ℕ → Type 0
RiseFrom low [] = Unit {0}
RiseFrom low (x ∷ xs) = (low ≤ x) × RiseFrom (x + 1) xs

-- a pass of the list holds the lane
abbrev pub HoldsLane : List PassView → (pass lane : ℕ) → Type 0
HoldsLane passes pass lane = (p : PassView) × (get_elem? passes pass ≡ some p) × Contains p.lanes lane

-- each lane is held by exactly one pass, no others are, and each pass has its own in rising order
pub record LanesApart (shape : Shape) (passes : List PassView) : Type 0 where
  pub held : (lane : ℕ) → lane < shape.lanes → (pass : ℕ) × HoldsLane passes pass lane
  pub exists : (pass lane : ℕ) → HoldsLane passes pass lane → lane < shape.lanes
  pub once : (pass other lane : ℕ) → HoldsLane passes pass lane → HoldsLane passes other lane → pass ≡ other
  pub rising : (pass : ℕ) (p : PassView) → get_elem? passes pass ≡ some p → RiseFrom 0 p.lanes
