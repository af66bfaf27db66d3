-- No node is given twice.
use Rattle.std.specs.Prelude.{◌≡◌, ◌≢◌, ◌++◌, ℕ, List, [], ◌∷◌, slice_set}
use Rattle.std.specs.List.{Contains}
use mathlib.Core.Option.{some}
use lib.ListN.{get_elem?}
use Rattle.md_words.specs.declared.shape.Shape.{Shape}
use Rattle.md_machine.specs.Machine.{IsAt, Machine, shape_of}
use Rattle.md_machine.specs.clauses.passes.Lanes.{LanesApart}
use Rattle.md_machine.specs.events.SplitJoin.{given_part, joined_part, kept_part, spent}
use Rattle.md_rule_lanes.specs.Shares.{joined_shares, share_at}
use Rattle.md_rule.specs.Views.{PassState}
use Rattle.md_arena.specs.Taking.{GivesNode, TakesNode}

-- a step that neither takes a node nor gives one back: the pass keeps its lanes, and what was taken of them
pub record KeepsNodes (p q : PassState) : Type 0 where
  pub shape : q.shape ≡ p.shape
  pub lanes : q.view.lanes ≡ p.view.lanes
  pub taken : (lane : ℕ) → (share_at q.shares lane).nodes_taken ≡ (share_at p.shares lane).nodes_taken

-- the pass with the lanes that a split leaves it, and the new one with those that it is given
abbrev pub kept_by : PassState → PassState
kept_by p = record p { view = kept_part p.shape p.view }

abbrev pub given_by : PassState → PassState
given_by p = record p { view = given_part p.shape p.view }

-- the pass that another was joined into, and that other one, which has no lanes afterwards
abbrev pub joined_by : (p other : PassState) → PassState
joined_by p other = record p {
  view = joined_part p.shape p.view other.view;
  shares = joined_shares other.view.lanes p.shares other.shares;
}

abbrev pub spent_by : PassState → PassState
spent_by p = record p { view = spent }

-- what one of some passes does, as far as it concerns nodes
pub data Call : Type 0 where
  takes : (node : ℕ) → Call
  gives : (node : ℕ) → Call
  keeps : Call
  splits : Call
  joins : Call

-- one of the passes becomes another
pub record OneGoes (ps : List PassState) (Goes : PassState → PassState → Type 0) (qs : List PassState) : Type 0 where
  pub place : ℕ
  pub p : PassState
  pub at : get_elem? ps place ≡ some p
  pub q : PassState
  pub goes : Goes p q
  pub is : qs ≡ slice_set ps place q

-- one of them is split, or takes in another
pub record OneSplits (ps qs : List PassState) : Type 0 where
  pub place : ℕ
  pub p : PassState
  pub at : get_elem? ps place ≡ some p
  pub is : qs ≡ slice_set ps place (kept_by p) ++ given_by p ∷ []

pub record TwoJoin (ps qs : List PassState) : Type 0 where
  pub place : ℕ
  pub p : PassState
  pub at : get_elem? ps place ≡ some p
  pub other : ℕ
  pub q : PassState
  pub beside : get_elem? ps other ≡ some q
  pub is : qs ≡ slice_set (slice_set ps place (joined_by p q)) other (spent_by q)

abbrev pub Calls : List PassState → Call → List PassState → Type 0
Calls ps (takes node) qs = OneGoes ps (λ p q. TakesNode p node q) qs
Calls ps (gives node) qs = OneGoes ps (λ p q. GivesNode p node q) qs
Calls ps keeps qs = OneGoes ps KeepsNodes qs
Calls ps splits qs = OneSplits ps qs
Calls ps joins qs = TwoJoin ps qs

abbrev pub Course : List PassState → List Call → List PassState → Type 0
Course ps [] rs = ps ≡ rs
Course ps (c ∷ cs) rs = (qs : List PassState) × Calls ps c qs × Course qs cs rs

-- the passes are of one shape, and no lane is held by two of them
pub record AreApart (shape : Shape) (ps : List PassState) : Type 0 where
  pub shapes : (place : ℕ) (p : PassState) → get_elem? ps place ≡ some p → p.shape ≡ shape
  pub once : (one other lane : ℕ) (p q : PassState) → get_elem? ps one ≡ some p → get_elem? ps other ≡ some q
      → Contains p.view.lanes lane → Contains q.view.lanes lane → one ≡ other

-- after one of such passes took a node, whatever they do, the next node that one of them takes is another, unless that
-- one was given back
abbrev pub NoNodeTwice : Type 0
NoNodeTwice = (shape : Shape) (ps qs rs ss : List PassState) (node again : ℕ) (calls : List Call) → AreApart shape ps
    → Calls ps (takes node) qs → Course qs calls rs → ¬ Contains calls (gives node) → Calls rs (takes again) ss → node ≢ again

-- and two passes of a machine take no node both
abbrev pub NoNodeOfTwo : Type 0
NoNodeOfTwo = (m : Machine) → LanesApart (shape_of m) m.passes → (pass other : ℕ) (p q : PassState)
    → IsAt m pass p.view → IsAt m other q.view
    → (p.shape ≡ shape_of m) → (q.shape ≡ shape_of m) → (p' q' : PassState) (node : ℕ)
    → TakesNode p node p' → TakesNode q node q' → pass ≡ other
