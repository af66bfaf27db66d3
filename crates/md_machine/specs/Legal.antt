-- What the machine means in the words of histories: the opening's state, and the front of a pass.
use Rattle.std.specs.Prelude.{◌≡◌, ℕ, Bool, List, [], length, map}
use Rattle.std.specs.List.{range_with_len}
use Rattle.md_words.specs.declared.shape.Shape.{Shape}
use Rattle.md_words.specs.Lanes.{lane_of_desc}
use Rattle.md_history.specs.State.{State}
use Rattle.md_history.specs.Engine.{IsFrontFrom}
use Rattle.md_history.specs.Front.{Front, Begun, of_lane}
use Rattle.md_machine.specs.declared.attempt.AttemptId.{AttemptId}
use Rattle.md_machine.specs.declared.opening.Opening.{Opening}
use Rattle.md_machine.specs.declared.pass.PassView.{PassView}
use Rattle.md_machine.specs.Event.{CanOpen, Event, Runs, opened}
use Rattle.md_machine.specs.Machine.{IsAt, IsLive, Machine, shape_of}
use Rattle.md_machine.specs.Meaning.{Meaning}
use Rattle.md_machine.specs.Resolution.{Resolves, entries_of, logical_heap}
use Rattle.md_machine.specs.clauses.words.WasIn.{LeastFactsHold, MetWereIn, SettledStay}
use Rattle.md_machine.specs.clauses.slots.UndecidedSlots.{UndecidedNamePlaced}

-- an attempt with its lane
abbrev pub begun_of : Shape → AttemptId → Begun
begun_of shape a = record { lane = lane_of_desc shape a.desc; descriptor = a.desc; serial = a.serial }

-- the front of a pass
abbrev pub front_of : Shape → PassView → Front
front_of shape p = record {
  lanes = p.lanes;
  seen = entries_of p.seen;
  known = p.known;
  mine = λ lane. of_lane lane p.mine;
  pending = map (begun_of shape) p.pending;
}

module _ (M : Meaning) where
  -- the state in which a field was opened
  abbrev pub opening_state : Opening → State
  opening_state o = M.state (logical_heap (opened o) []).words

  -- the front of each live pass is one of an engine with all lanes that starts in the opening's state
  abbrev pub FrontsAreFrom : Machine → Type 0
  FrontsAreFrom m = (pass : ℕ) (p : PassView) → IsAt m pass p → IsLive p
      → IsFrontFrom (opening_state m.opening) (range_with_len 0 (shape_of m).lanes) (front_of (shape_of m) p)

  -- of a machine: each resolution's logical heap is valid, each entry has a fate, and the front of each live pass is
  -- legal; and what steps met was in valid heaps whose facts hold for good
  pub record IsMeant (m : Machine) : Type 0 where
    pub valid : (choice : List Bool) → Resolves m choice → M.valid (logical_heap m choice)
    pub fated : length m.fates ≡ length m.history
    pub fronts : FrontsAreFrom m
    pub least_facts : LeastFactsHold m
    pub was_in : MetWereIn M m
    pub settled : SettledStay m
    pub undecided_slots : UndecidedNamePlaced M m

  -- after every list of events from an opening
  abbrev pub AlwaysMeant : Type 0
  AlwaysMeant = (o : Opening) (events : List Event) (m : Machine) → CanOpen M o → Runs M (opened o) events m → IsMeant m
