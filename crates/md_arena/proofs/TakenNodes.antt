-- Nodes that are taken and nodes that are left.
use Rattle.std.proofs.Common.{◌≡◌, ◌≢◌, ℕ, ◌+◌, ◌-◌, ◌/◌, ◌<◌, ◌≤◌, List, length, set, get_or-set_same, get_or-set_other, sym, ap, ◌∙◌, subst, ⊎_elim, arith}
use Rattle.std.specs.List.{Contains}
use Rattle.std.proofs.lemmas.Bool.{cases_order}
use Rattle.std.proofs.lemmas.Nat.{rows}
use Rattle.md_words.specs.declared.shape.Shape.{Shape}
use Rattle.md_words.specs.Lanes.{OwnsNode, lane_of_node, node_of}
use Rattle.md_words.proofs.Owners.{owner_of_node}
use Rattle.md_machine.specs.FreeToReturn.{KnowsFree}
use Rattle.md_rule.specs.Lanes.{AreLanes}
use Rattle.md_rule.proofs.LaneLists.{lane_fits}
use Rattle.md_rule_lanes.specs.Shares.{MayReturn, share_at}
use Rattle.md_rule.specs.Views.{PassState}
use Rattle.md_rule_lanes.specs.declared.shares.Share.{Share}
use Rattle.md_rule.specs.Kept.{IsLeft, next_of}
use Rattle.md_arena.specs.Left.{HasNodeLeft, IsLowest, IsTaken}
use Rattle.md_arena.specs.Taking.{GivesNode, IsHighestTaken, IsLowestLeft, TakesNode, with_nodes}

-- the number of a node in its lane
pub number_of : (shape : Shape) (lane taken node : ℕ) → OwnsNode shape lane node → node ≡ node_of shape lane taken → taken < shape.nodes
unfolding OwnsNode node_of
number_of shape lane taken node owns is = let last = owns.2 in grind (arith)

-- the lane of a node, and how many nodes of it were taken when the node was the highest
pub lane_of : (shape : Shape) (lane node : ℕ) → OwnsNode shape lane node → (node - shape.base - 1) / shape.nodes ≡ lane
unfolding lane_of_node
lane_of shape lane node owns = ((owner_of_node shape lane node).0 owns).2

pub past_base : (shape : Shape) (lane node : ℕ) → OwnsNode shape lane node → shape.base + 1 ≤ node
unfolding OwnsNode
past_base shape lane node owns = let first = owns.1 in omega (arith, first)

pub highest_number : (shape : Shape) (lane taken node : ℕ) → OwnsNode shape lane node → node + 1 ≡ node_of shape lane taken
    → (1 ≤ taken) × (taken ≤ shape.nodes) × (node_of shape lane (taken - 1) ≡ node)
unfolding OwnsNode node_of
highest_number shape lane taken node owns is = let first = owns.1 in let last = owns.2 in
    let some : 1 ≤ taken = omega (arith, first, is) in (some, grind (arith), omega (arith, some, is))

-- a lower lane has lower nodes
pub lower_lane : (shape : Shape) (lane other node below : ℕ) → OwnsNode shape lane node → OwnsNode shape other below → other < lane → below < node
unfolding OwnsNode
lower_lane shape lane other node below owns own less = let first = owns.1 in let last = own.2 in grind (arith, rows)

-- if the next node of a lane is one of the lane, it has a node left
pub left_of_lane : (p : PassState) (lane node : ℕ) → OwnsNode p.shape lane node → next_of p lane ≤ node → HasNodeLeft p lane
unfolding OwnsNode node_of
left_of_lane p lane node owns less = let last = owns.2 in grind (arith)

-- the share of a lane that was set, and those of the others
pub share_same : (shares : List Share) (lane : ℕ) (s : Share) → lane < length shares → share_at (set shares lane s) lane ≡ s
share_same shares lane s inside = get_or-set_same shares lane s _ inside

pub share_other : (shares : List Share) (lane other : ℕ) (s : Share) → lane ≢ other → share_at (set shares lane s) other ≡ share_at shares other
share_other shares lane other s ne = get_or-set_other shares lane other s _ (λ e. ne (sym e))

-- the next node of the lowest lane that has one left is the lowest of all that are left
pub lowest_left : (p : PassState) (lane node : ℕ) → IsLowest p (HasNodeLeft p) lane → OwnsNode p.shape lane node → node ≡ next_of p lane → IsLowestLeft p node
lowest_left p lane node lowest owns is = (
  (lane, lowest.held, owns, omega (arith, is)),
  λ other left. ⊎_elim
      (λ (e : left.0 ≡ lane). let more = left.3 in let same = ap (next_of p) e in omega (arith, more, same, is))
      (λ o. ⊎_elim
      (λ (b : left.0 < lane). absurd (lowest.lower left.0 left.1 b (left_of_lane p left.0 other left.2 left.3)))
      (λ (b : lane < left.0). let h = lower_lane p.shape left.0 lane other node left.2 owns b in omega (arith, h))
      o)
      (cases_order left.0 lane),
)

-- what is taken and what is left afterwards
pub next_after : (p : PassState) (lane taken : ℕ) → lane < length p.shares → next_of (with_nodes p lane taken) lane ≡ node_of p.shape lane taken
next_after p lane taken inside = ap (λ s. node_of p.shape lane s.nodes_taken) (share_same p.shares lane (record (share_at p.shares lane) { nodes_taken = taken }) inside)

pub next_other : (p : PassState) (lane other taken : ℕ) → lane ≢ other → next_of (with_nodes p lane taken) other ≡ next_of p other
next_other p lane other taken ne = ap (λ s. node_of p.shape other s.nodes_taken) (share_other p.shares lane other (record (share_at p.shares lane) { nodes_taken = taken }) ne)

pub next_up : (shape : Shape) (lane i : ℕ) → node_of shape lane (i + 1) ≡ node_of shape lane i + 1
unfolding node_of
next_up shape lane i = omega arith

pub taken_by : (p : PassState) (node : ℕ) (q : PassState) → TakesNode p node q → IsTaken q node
taken_by p node q t =
    let n = (share_at p.shares t.lane).nodes_taken in
    let next = next_after p t.lane (n + 1) t.shared in let up = next_up p.shape t.lane n in let is = t.next in
    subst (λ q. IsTaken q node) (sym t.taken) (t.lane, t.lowest.held, t.owns, omega (arith, next, up, is))

pub left_by : (p : PassState) (node : ℕ) (q : PassState) → GivesNode p node q → IsLeft q node
left_by p node q g =
    let lane = g.highest.lane in
    let next = next_after p lane g.taken g.shared in let up = next_up p.shape lane g.taken in let is = g.highest.next in
    let one = ap (node_of p.shape lane) g.one in
    subst (λ q. IsLeft q node) (sym g.left) (lane, g.highest.held, g.highest.owns, omega (arith, next, up, is, one))

-- the highest taken node of a lane, as the code finds its lane and its number
module _ (p : PassState) (node : ℕ) (h : IsHighestTaken p node) (shape : Shape) (same : shape ≡ p.shape) where
  abbrev pub found : ℕ
  found = (node - shape.base - 1) / shape.nodes

  pub has_base : shape.base + 1 ≤ node
  has_base = subst (λ s. s.base + 1 ≤ node) (sym same) (past_base p.shape h.lane node h.owns)

  pub its_lane : found ≡ h.lane
  its_lane = ap (λ s. (node - s.base - 1) / s.nodes) same ∙ lane_of p.shape h.lane node h.owns

  pub lane_held : Contains p.view.lanes found
  lane_held = subst (Contains p.view.lanes) (sym its_lane) h.held

  module _ (taken : ℕ) (read : taken ≡ (share_at p.shares found).nodes_taken) where
    taken_is : taken ≡ (share_at p.shares h.lane).nodes_taken
    taken_is = read ∙ ap (λ lane. (share_at p.shares lane).nodes_taken) its_lane

    pub number : (1 ≤ taken) × (taken ≤ p.shape.nodes) × (node_of p.shape h.lane (taken - 1) ≡ node)
    number = highest_number p.shape h.lane taken node h.owns (h.next ∙ ap (node_of p.shape h.lane) (sym taken_is))

    pub may_return : KnowsFree p.shape p.view node → MayReturn p.shape p.view found (taken - 1) (share_at p.shares found).nodes_taken
    may_return free i low high =
        let some = number.0 in
        let last : i ≡ taken - 1 = omega (arith, low, high, read, some) in
        let it : node_of p.shape found i ≡ node = ap (λ lane. node_of p.shape lane i) its_lane ∙ ap (node_of p.shape h.lane) last ∙ number.2 in
        subst (KnowsFree p.shape p.view) (sym it) free

    pub gives : AreLanes p.shape p.view.lanes → length p.shares ≡ 64 → (q : PassState) → q ≡ with_nodes p found (taken - 1) → GivesNode p node q
    gives are count q is = let fits = lane_fits p.shape p.view.lanes h.lane are h.held in let some = number.0 in let t = taken_is in record {
      highest = h;
      shared = omega (arith, fits, count);
      taken = taken - 1;
      one = omega (arith, some, t);
      left = is ∙ ap (λ lane. with_nodes p lane (taken - 1)) its_lane;
    }

-- a node that was just taken is the highest of its lane
pub highest_by : (p : PassState) (node : ℕ) (q : PassState) → TakesNode p node q → IsHighestTaken q node
highest_by p node q t =
    let n = (share_at p.shares t.lane).nodes_taken in
    let next = next_after p t.lane (n + 1) t.shared in let up = next_up p.shape t.lane n in let is = t.next in
    subst (λ q. IsHighestTaken q node) (sym t.taken) (record { lane = t.lane; held = t.lowest.held; owns = t.owns; next = omega (arith, next, up, is) })
