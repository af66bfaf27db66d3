-- What the rounds of callers come to: each line once.
use Rattle.std.specs.Prelude.{◌≡◌, ◌≤◌, ◌+◌, ◌-◌, ◌*◌, ◌/◌, ◌%◌, ◌^◌, ℕ, Bool, if◌then◌else◌, List, [], ◌∷◌, length, map, flat_map}
use Rattle.std.specs.List.{AllByRecursion}
use Rattle.md_history.specs.declared.entries.Entry.{Entry}
use Rattle.md_history.specs.State.{State}
use Rattle.md_history.specs.History.{AllDecided}
use Rattle.md_history.specs.Front.{Front, LegalFrom, committed_in, replay_of}
use Rattle.md_many_attempts.specs.Lines.{AreLines}
use Rattle.md_many_attempts.specs.Meaning.{Meaning}
use Rattle.md_many.specs.Rounds.{of_caller}

-- the committed entries of fronts, one front after another
abbrev pub committed_of : List Front → List Entry
committed_of fronts = flat_map committed_in fronts

-- the state that fronts leave, one after another
abbrev pub state_after : State → List Front → State
state_after start [] = start
state_after start (f ∷ fs) = state_after (replay_of start f) fs

-- each front is decided, and legal from the state that those before it leave
abbrev pub AreDecidedAndLegal : State → List Front → Type 0
AreDecidedAndLegal start [] = Unit {0}
AreDecidedAndLegal start (f ∷ fs) = LegalFrom start f × AllDecided f.known × AreDecidedAndLegal (replay_of start f) fs

abbrev pub tags_of : List Entry → List ℕ
tags_of es = map (λ (e : Entry). e.tag) es

-- The entries with a caller's tags are its first n lines, each once and in order, and with the replies that are kept of
-- it.
pub record HasPlayedAll {B R : Type 0} (m : Meaning B R) (keeps : ℕ → List R → Type 0) (caller n : ℕ) (es : List Entry)
    : Type 0 where
  pub replies : List R
  pub kept : keeps caller replies
  pub count : length replies ≡ n
  pub lines : AreLines m caller (of_caller caller es) replies 0

-- The committed entries of the fronts are the callers' lines, each once, each caller's in order, with the replies that
-- are kept; each front is decided, and legal from the state that those before it leave; the contents are what they
-- leave, and are good for the tags of the entries.
pub record EachLineOnce {B R : Type 0} (m : Meaning B R) (keeps : ℕ → List R → Type 0) (good : State → List ℕ → Type 0)
    (opening : State) (fronts : List Front) (contents : State) : Type 0 where
  pub legal : AreDecidedAndLegal opening fronts
  pub each : (caller : ℕ) → HasPlayedAll m keeps caller (m.line_count caller) (committed_of fronts)
  pub replay : contents ≡ state_after opening fronts
  pub stands : good contents (tags_of (committed_of fronts))

-- the gate was told of each line of each caller
abbrev pub IsToldOfEach : (ℕ → ℕ) → (ℕ → ℕ → Type 0) → Type 0
IsToldOfEach line_count told = (caller line : ℕ) → 1 ≤ line → line ≤ line_count caller → told caller line

-- the gate was told of the line that each of these entries is, by its tag
abbrev pub IsToldOf : (ℕ → ℕ → Type 0) → List Entry → Type 0
IsToldOf told es = AllByRecursion (λ e. told (e.tag / 2 ^ 32) (e.tag % 2 ^ 32)) es

-- how many lines are left, of the callers after the first so many, who have played so many lines each
abbrev pub left_after : (ℕ → ℕ) → ℕ → List ℕ → ℕ
left_after line_count before [] = 0
left_after line_count before (n ∷ done) = (line_count (before + 1) - n) + left_after line_count (before + 1) done

-- a number that falls with each round, which leaves fewer lines, or as many and a worn engine
abbrev pub rounds_left : (ℕ → ℕ) → List ℕ → Bool → ℕ
rounds_left line_count done worn = 2 * left_after line_count 0 done + (if worn then 0 else 1)

-- the fronts of engines that were renewed, and the lines that are left, together
abbrev pub fronts_and_left : (ℕ → ℕ) → ℕ → List ℕ → ℕ
fronts_and_left line_count fronts done = fronts + left_after line_count 0 done
