-- What a pass has left of its lanes.
use Rattle.std.specs.Prelude.{◌<◌, ℕ}
use Rattle.std.specs.List.{Contains}
use Rattle.md_words.specs.Lanes.{OwnsNode}
use Rattle.md_rule.specs.Kept.{next_of}
use Rattle.md_rule_lanes.specs.Shares.{share_at}
use Rattle.md_rule.specs.Views.{PassState}

-- a node of the pass that was taken
abbrev pub IsTaken : PassState → (node : ℕ) → Type 0
IsTaken p node = (lane : ℕ) × Contains p.view.lanes lane × OwnsNode p.shape lane node × (node < next_of p lane)

-- the lane has a node left, or an attempt
abbrev pub HasNodeLeft : PassState → (lane : ℕ) → Type 0
HasNodeLeft p lane = (share_at p.shares lane).nodes_taken < p.shape.nodes

abbrev pub HasTryLeft : PassState → (lane : ℕ) → Type 0
HasTryLeft p lane = (share_at p.shares lane).tries_taken < p.shape.tries

-- the lane is the pass's lowest of which this holds
pub record IsLowest (p : PassState) (Has : ℕ → Type 0) (lane : ℕ) : Type 0 where
  pub held : Contains p.view.lanes lane
  pub has : Has lane
  pub lower : (other : ℕ) → Contains p.view.lanes other → other < lane → ¬ Has other

-- it holds of none of the pass's lanes
abbrev pub NoLane : PassState → (Has : ℕ → Type 0) → Type 0
NoLane p Has = (lane : ℕ) → Contains p.view.lanes lane → ¬ Has lane
