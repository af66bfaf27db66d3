-- What contracts see of a store and of its passes, in the words of engines.
use Rattle.std.specs.Prelude.{◌≡◌, ◌≢◌, ◌-◌, ◌/◌, ℕ, false, List, min}
use Rattle.std.specs.List.{range_with_len, sum_by}
use Rattle.md_words.specs.declared.limits.TheConstants.{MAX_BASE, MAX_WORDS, SET}
use Rattle.md_words.specs.declared.shape.Shape.{Shape}
use Rattle.md_words.specs.Limits.{count_of_words}
use Rattle.md_history.specs.declared.stops.Limit.TheVariants.{Worn}
use Rattle.md_history.specs.declared.stops.Stop.{Stop}
use Rattle.md_history.specs.declared.stops.Stop.TheVariants.{Conflict, Limit, NoMemory}
use Rattle.md_history.specs.Engine.{Limits}
use Rattle.md_history.specs.Front.{Front}
use Rattle.md_history.specs.State.{State}
use Rattle.md_machine.specs.Event.{first_pass}
use Rattle.md_machine.specs.Legal.{front_of}
use Rattle.md_help.specs.After.{StandsInField}
use Rattle.md_rule.specs.Closing.{plain_words}
use Rattle.md_rule_lanes.specs.Shares.{share_at}
use Rattle.md_rule.specs.Views.{FieldView, IsOf, PassState}
use Rattle.md_rule_lanes.specs.declared.shares.Share.{Share}
use Rattle.md_store_law.specs.Store.{state_of_store, store}
use Rattle.md_store_law.specs.Untouched.{IsUntouched}

-- the state of the words with which the field was opened, and all lanes of its shape
abbrev pub start_of : FieldView → State
start_of f = state_of_store (plain_words f.origin.shape f.origin.words)

abbrev pub all_lanes : Shape → List ℕ
all_lanes shape = range_with_len 0 shape.lanes

-- the most base nodes with which the shape stays in range
abbrev pub room_of : Shape → ℕ
room_of s = min MAX_BASE ((MAX_WORDS - count_of_words s.lanes s.nodes 0 s.maps s.buckets s.queues) / 3)

-- a transaction reads and writes as many words as a set holds; each lane has its nodes and its attempts
abbrev pub limits_of : Shape → Limits
limits_of s = record { reads = SET; writes = SET; nodes = s.nodes; tries = s.tries; room = room_of s }

-- an attempt may stop by a conflict or a limit, and never by memory
abbrev pub MayStop : Stop → Type 0
MayStop (Conflict shown) = Unit {0}
MayStop (Limit limit) = Unit {0}
MayStop NoMemory = ⊥

-- it doesn't tell of a worn word
abbrev pub IsUnworn : Stop → Type 0
IsUnworn s = (word count : ℕ) → s ≢ Limit (Worn word count)

-- the front of a pass, and how many attempts its lanes have begun
abbrev pub front_in : PassState → Front
front_in p = front_of p.shape p.view

abbrev pub begun_by : PassState → ℕ
begun_by p = sum_by (λ lane. (share_at p.shares lane).tries_taken) p.view.lanes

-- how many nodes they have taken, and how many they have in all
abbrev pub taken_by : PassState → ℕ
taken_by p = sum_by (λ lane. (share_at p.shares lane).nodes_taken) p.view.lanes

abbrev pub nodes_in : PassState → ℕ
nodes_in p = sum_by (λ lane. p.shape.nodes) p.view.lanes

-- the pass is of the field, and stands so in some machine of it
pub record IsPassOf (f : FieldView) (p : PassState) : Type 0 where
  pub of : IsOf p f
  pub stands : StandsInField store f.origin p.view

-- the pass holds all lanes of the field
abbrev pub HasAllLanes : FieldView → PassState → Type 0
HasAllLanes f p = (front_in p).lanes ≡ all_lanes f.origin.shape

-- nothing of a lane was taken
pub record IsShareUnused (s : Share) : Type 0 where
  pub nodes : s.nodes_taken ≡ 0
  pub tries : s.tries_taken ≡ 0
  pub slots : s.slots_written ≡ 0
  pub closed : s.left_open ≡ false

-- the pass knows what the first pass of the field does, and nothing was taken of any lane
pub record IsFresh (p : PassState) : Type 0 where
  pub view : p.view ≡ first_pass p.shape
  pub unused : (lane : ℕ) → IsShareUnused (share_at p.shares lane)

-- the pass is fresh, and nothing was changed in the field's words since they were laid
abbrev pub IsNew : FieldView → PassState → Type 0
IsNew f p = IsFresh p × IsUntouched f.origin.shape f.origin.words
