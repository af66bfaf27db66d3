-- The moves split and join: lanes go to a new pass, or come back from one.
use Rattle.std.specs.Prelude.{false, ◌≤◌, ◌-◌, ◌/◌, ◌++◌, ◌||◌, nat_le, ℕ, List, [], ◌∷◌, length, take, drop, filter, slice_set, None, if◌then◌else◌}
use Rattle.std.specs.List.{range_with_len}
use Rattle.md_words.specs.declared.shape.Shape.{Shape}
use Rattle.md_words.specs.Lanes.{lane_of_desc}
use Rattle.md_history.specs.Front.{is_lane_of, known_of_both}
use Rattle.md_machine.specs.declared.attempt.HistoryEntry.{HistoryEntry}
use Rattle.md_machine.specs.declared.pass.PassView.{PassView}
use Rattle.md_machine.specs.declared.step.Step.{Step}
use Rattle.md_machine.specs.declared.step.Kind.TheVariants.{Load}
use Rattle.md_machine.specs.Machine.{Machine, shape_of}
use Rattle.md_machine.specs.Stepping.{attempt_in_hand}
use Rattle.md_machine.specs.events.Mark.{after_move}

-- the step of a move of lanes: a load of word 0, which always holds 0
abbrev pub moved_step : PassView → Step
moved_step p = record { kind = Load; word = 0; before = 0; after = 0; attempt = attempt_in_hand p.hand; placed = false }

-- the pass after it. It notes nothing: what a move of lanes leaves in views is a function of the views alone
abbrev pub moved : PassView → PassView
moved p = record p { trail = p.trail ++ moved_step p ∷ [] }

-- the pass with some of its lanes, and nothing in hand
abbrev pub with_lanes : Shape → List ℕ → PassView → PassView
with_lanes shape lanes p = record p {
  lanes = lanes;
  mine = filter (λ e. is_lane_of lanes e.lane) p.mine;
  pending = filter (λ a. is_lane_of lanes (lane_of_desc shape a.desc)) p.pending;
  hand = None;
}

-- of n lanes the new pass gets the last n / 2
abbrev pub kept_lanes : List ℕ → List ℕ
kept_lanes lanes = take (length lanes - length lanes / 2) lanes

abbrev pub given_lanes : List ℕ → List ℕ
given_lanes lanes = drop (length lanes - length lanes / 2) lanes

abbrev pub MaySplit : PassView → Type 0
MaySplit p = 2 ≤ length p.lanes

-- the pass with the lanes that it keeps, and the new one with those that it is given
abbrev pub kept_part : Shape → PassView → PassView
kept_part shape p = with_lanes shape (kept_lanes p.lanes) (moved p)

abbrev pub given_part : Shape → PassView → PassView
given_part shape p = with_lanes shape (given_lanes p.lanes) (moved p)

abbrev pub after_split : Machine → (pass : ℕ) → PassView → Machine
after_split m pass p = record (after_move m pass (kept_part (shape_of m) p)) { passes = slice_set m.passes pass (kept_part (shape_of m) p) ++ given_part (shape_of m) p ∷ [] }

-- the lanes of both, in rising order
abbrev pub joined_lanes : Shape → (lanes others : List ℕ) → List ℕ
joined_lanes shape lanes others = filter (λ l. is_lane_of lanes l || is_lane_of others l) (range_with_len 0 shape.lanes)

-- the longer of two prefixes of one history
abbrev pub longer : (seen others : List HistoryEntry) → List HistoryEntry
longer seen others = if nat_le (length seen) (length others) then others else seen

-- what both have, with the segments of both and a new one
abbrev pub joined : Shape → (p q : PassView) → PassView
joined shape p q = record {
  lanes = joined_lanes shape p.lanes q.lanes;
  seen = longer p.seen q.seen;
  known = known_of_both p.known q.known;
  placed = p.placed ++ q.placed;
  mine = p.mine ++ q.mine;
  pending = p.pending ++ q.pending;
  past = (p.past ++ p.trail ∷ []) ++ (q.past ++ q.trail ∷ []);
  trail = [];
  hand = None;
}

-- a pass that was joined into another
abbrev pub spent : PassView
spent = record { lanes = []; seen = []; known = []; placed = []; mine = []; pending = []; past = []; trail = []; hand = None }

-- the pass with all that both have
abbrev pub joined_part : Shape → (p q : PassView) → PassView
joined_part shape p q = joined shape (moved p) q

abbrev pub after_join : Machine → (pass other : ℕ) → (p q : PassView) → Machine
after_join m pass other p q = record (after_move m pass (joined_part (shape_of m) p q)) { passes = slice_set (slice_set m.passes pass (joined_part (shape_of m) p q)) other spent }
