-- How far counts rise in the first attempt of a field whose opening has nothing to tidy.
use Rattle.std.specs.Prelude.{◌≡◌, ◌≢◌, ◌+◌, ◌≤◌, ◌⊎◌, ℕ, [], Contains, slice_index}
use Rattle.md_words.specs.PlaceAt.{IsCounted}
use Rattle.md_machine.specs.declared.opening.Opening.{Opening}
use Rattle.md_machine.specs.Event.{CanOpen, opened}
use Rattle.md_machine.specs.Meaning.{Meaning}
use Rattle.md_machine.specs.Own.{HasNode}
use Rattle.md_machine.specs.Resolution.{logical_heap}
use Rattle.md_machine.specs.Trail.{SomeStep}
use Rattle.md_machine.specs.clauses.passes.Alone.{HoldsAll}
use Rattle.md_words.specs.Content.{count_of}
use Rattle.md_rule.specs.Kept.{IsLeft, KeepsLanes}
use Rattle.md_rule_lanes.specs.Shares.{share_at}
use Rattle.md_rule.specs.Views.{Origin}
use Rattle.md_nbtc_law.specs.Going.{IsUnderWay, MeetsCount}
use Rattle.md_nbtc_law.specs.State.{OwnNode, TxnState, attempt_in, own_steps, shape_in}
use Rattle.md_nbtc_first.specs.Calm.{HasNothingToTidy}

-- whatever nodes are placed in it, a field that is opened so has nothing to tidy
abbrev pub OpensWithNothingToTidy : Meaning → Origin → Type 0
OpensWithNothingToTidy M o = (x : Opening) → x.shape ≡ o.shape → x.words ≡ o.words → CanOpen M x
    → HasNothingToTidy M (logical_heap (opened x) [])

-- The transaction is the first attempt of its field: its pass holds all lanes, never joined another one and has seen no
-- entry. One attempt of its lane was taken, and none of another. Each node of a lane is left, or is an own one.
pub record IsFirst (t : TxnState) : Type 0 where
  pub all : HoldsAll (shape_in t) t.pass.view
  pub past : t.pass.view.past ≡ []
  pub seen : t.pass.view.seen ≡ []
  pub keeps : KeepsLanes (shape_in t) t.pass.view t.pass.shares
  pub one : (share_at t.pass.shares (attempt_in t).desc).tries_taken ≡ 1
  pub others : (lane : ℕ) → lane ≢ (attempt_in t).desc → (share_at t.pass.shares lane).tries_taken ≡ 0
  pub nodes : (node : ℕ) → HasNode (shape_in t) t.pass.view node
      → IsLeft t.pass node ⊎ ((n : OwnNode) × Contains t.nodes n × (n.node ≡ node))

-- no own step of it met a word at a count more than 4 above the opening's
abbrev pub FirstAttemptsStayLow : Meaning → Type 0
FirstAttemptsStayLow M = (t : TxnState) → OpensWithNothingToTidy M t.field.origin → IsUnderWay M t → IsFirst t
    → (word count : ℕ) → IsCounted (shape_in t) word → SomeStep (MeetsCount word count) (own_steps t)
    → count ≤ count_of (slice_index t.field.origin.words word) + 4
