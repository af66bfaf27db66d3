-- What a step changes: a word, and what the pass knows.
use Rattle.std.specs.Prelude.{◌==◌, ℕ, Bool, false, List, [], ◌∷◌, ◌++◌, slice_set, Option, Some, None, if◌then◌else◌}
use prog.Atomic.{either}
use Rattle.md_words.specs.declared.shape.Shape.{Shape}
use Rattle.md_words.specs.declared.status.Status.{Status}
use Rattle.md_words.specs.declared.status.Status.TheVariants.{Committed as IsCommitted, Aborted as IsAborted}
use Rattle.md_words.specs.Status.{status_of, serial_of}
use Rattle.md_words.specs.Place.{Place, desc_status, node_key, node_value, node_next}
use Rattle.md_words.specs.PlaceAt.{place_at}
use Rattle.md_history.specs.declared.entries.Fate.{Fate}
use Rattle.md_history.specs.declared.entries.Fate.TheVariants.{Committed, Aborted}
use Rattle.md_machine.specs.declared.attempt.AttemptId.{AttemptId}
use Rattle.md_machine.specs.declared.attempt.Hand.{Hand}
use Rattle.md_machine.specs.declared.attempt.HistoryEntry.{HistoryEntry}
use Rattle.md_machine.specs.declared.step.Step.{Step}
use Rattle.md_machine.specs.declared.step.Kind.{Kind}
use Rattle.md_machine.specs.declared.pass.PassView.{PassView}
use Rattle.md_machine.specs.Machine.{Machine, attempt_of, content, same_attempt, shape_of}
use Rattle.md_machine.specs.Resolution.{always_nodes, always_placed}
use Rattle.md_machine.specs.Trail.{is_store}

-- the fate that a status tells: only a decided one tells any
abbrev pub fate_told : Status → Fate → Fate
fate_told IsCommitted known = Committed
fate_told IsAborted known = Aborted
fate_told _ known = known

-- fates with that of one attempt's entry set as a status tells it
abbrev pub with_fate : List HistoryEntry → AttemptId → Status → List Fate → List Fate
with_fate (e ∷ es) a status (f ∷ fs) = (if same_attempt e.attempt a then fate_told status f else f) ∷ with_fate es a status fs
with_fate _ a status fs = fs

-- what a status word tells of the attempt whose serial it has
abbrev pub told_by : List HistoryEntry → (desc held : ℕ) → List Fate → List Fate
told_by seen desc held known = with_fate seen (attempt_of desc (serial_of held)) (status_of held) known

-- the fates known after a step on the word of a place: a status that it found or left may be decided
abbrev pub known_at : List HistoryEntry → Step → Place → List Fate → List Fate
known_at seen s (desc_status desc) known = told_by seen desc s.after (told_by seen desc s.before known)
known_at seen s _ known = known

abbrev pub known_after : Shape → List HistoryEntry → Step → List Fate → List Fate
known_after shape seen s known = if is_store s.kind then known else known_at seen s (place_at shape s.word) known

-- the pass after one more step
abbrev pub with_step : Shape → Step → PassView → PassView
with_step shape s p = record p { trail = p.trail ++ s ∷ []; known = known_after shape p.seen s p.known }

-- the word is one of the three of a node that is placed in every resolution
abbrev pub is_of_placed : Machine → Place → Bool
is_of_placed m (node_key node) = always_placed m node
is_of_placed m (node_value node) = always_placed m node
is_of_placed m (node_next node) = always_placed m node
is_of_placed m _ = false

abbrev pub attempt_in_hand : Option Hand → Option AttemptId
attempt_in_hand None = None
attempt_in_hand (Some h) = Some h.attempt

-- the step of a pass that leaves this in the word
abbrev pub step_of : Machine → PassView → Kind → (word after : ℕ) → Step
step_of m p kind word after = record {
  kind = kind;
  word = word;
  before = content m word;
  after = after;
  attempt = attempt_in_hand p.hand;
  placed = is_of_placed m (place_at (shape_of m) word);
}

-- the pass after such a step: it has noted the nodes that were placed in every resolution
abbrev pub stepped : Machine → PassView → Kind → (word after : ℕ) → PassView
stepped m p kind word after = record (with_step (shape_of m) (step_of m p kind word after) p) { placed = p.placed ++ always_nodes m }

-- the machine with this in the word, and this view of a pass
abbrev pub replaced : Machine → (pass : ℕ) → PassView → (word after : ℕ) → Machine
replaced m pass p word after = record m { words = slice_set m.words word after; passes = slice_set m.passes pass p }

-- whether an exchange that expects this wins, and what it leaves
abbrev pub wins : Machine → (word from : ℕ) → Bool
wins m word from = content m word == from

abbrev pub left_by : Machine → (word from to : ℕ) → ℕ
left_by m word from to = either (wins m word from) to (content m word)

-- the pass after an exchange, won or lost
abbrev pub exchanged : Machine → PassView → Kind → (word from to : ℕ) → PassView
exchanged m p kind word from to = stepped m p kind word (left_by m word from to)
