-- What the calls change.
use Rattle.std.specs.Prelude.{◌≡◌, ◌+◌, ◌<◌, ◌≤◌, ℕ, length}
use Rattle.std.specs.List.{Contains}
use Rattle.md_words.specs.Lanes.{OwnsNode}
use Rattle.md_rule_lanes.specs.Shares.{share_at, with_share}
use Rattle.md_rule.specs.Views.{PassState}
use Rattle.md_rule.specs.Kept.{IsLeft, next_of}
use Rattle.md_arena.specs.Left.{HasNodeLeft, HasTryLeft, IsLowest}

-- the pass with so many nodes of a lane taken, or with so many of its attempts begun
abbrev pub with_nodes : PassState → (lane taken : ℕ) → PassState
with_nodes p lane taken =
    record p { shares = with_share p.shares lane (record (share_at p.shares lane) { nodes_taken = taken }) }

abbrev pub with_tries : PassState → (lane taken : ℕ) → PassState
with_tries p lane taken =
    record p { shares = with_share p.shares lane (record (share_at p.shares lane) { tries_taken = taken }) }

-- the lowest lane that has a node left gives its next one
pub record TakesNode (p : PassState) (node : ℕ) (q : PassState) : Type 0 where
  pub lane : ℕ
  pub shared : lane < length p.shares
  pub lowest : IsLowest p (HasNodeLeft p) lane
  pub owns : OwnsNode p.shape lane node
  pub next : node ≡ next_of p lane
  pub taken : q ≡ with_nodes p lane ((share_at p.shares lane).nodes_taken + 1)

-- that is the lowest of all nodes that are left
abbrev pub IsLowestLeft : PassState → (node : ℕ) → Type 0
IsLowestLeft p node = IsLeft p node × ((other : ℕ) → IsLeft p other → node ≤ other)

-- the lowest lane that has an attempt left gives its descriptor
abbrev pub TakesDesc : PassState → (desc : ℕ) → PassState → Type 0
TakesDesc p desc q =
    IsLowest p (HasTryLeft p) desc × (q ≡ with_tries p desc ((share_at p.shares desc).tries_taken + 1))

-- the node is the highest of its lane that was taken, and it is left afterwards
pub record IsHighestTaken (p : PassState) (node : ℕ) : Type 0 where
  pub lane : ℕ
  pub held : Contains p.view.lanes lane
  pub owns : OwnsNode p.shape lane node
  pub next : node + 1 ≡ next_of p lane

pub record GivesNode (p : PassState) (node : ℕ) (q : PassState) : Type 0 where
  pub highest : IsHighestTaken p node
  pub shared : highest.lane < length p.shares
  pub taken : ℕ
  pub one : taken + 1 ≡ (share_at p.shares highest.lane).nodes_taken
  pub left : q ≡ with_nodes p highest.lane taken
