-- How far the counts of a field rise while no transaction is ready, if its opening has nothing to tidy.
use Rattle.std.specs.Prelude.{◌≡◌, ◌≢◌, ◌==◌, ◌&&◌, ◌+◌, ◌*◌, ◌≤◌, ℕ, Bool, true, false, not, List, [], ◌∷◌, ◌++◌, Some, slice_index}
use Rattle.std.specs.List.{Contains, count_by}
use Rattle.md_words.specs.declared.shape.Shape.{Shape}
use Rattle.md_words.specs.Content.{count_of}
use Rattle.md_words.specs.Lanes.{OwnsNode}
use Rattle.md_words.specs.Layout.{address}
use Rattle.md_words.specs.Place.{node_next}
use Rattle.md_words.specs.PlaceAt.{IsCounted}
use Rattle.md_machine.specs.declared.attempt.AttemptId.{AttemptId}
use Rattle.md_machine.specs.declared.certificate.TidyChange.{TidyChange}
use Rattle.md_machine.specs.declared.opening.Opening.{Opening}
use Rattle.md_machine.specs.declared.pass.PassView.{PassView}
use Rattle.md_machine.specs.declared.step.Kind.{Kind}
use Rattle.md_machine.specs.declared.step.Kind.TheVariants.{Install as Installs, Store}
use Rattle.md_machine.specs.declared.step.Step.{Step}
use Rattle.md_machine.specs.Event.{Acts, CanOpen, Event, Runs, opened}
use Rattle.md_machine.specs.LogicalHeap.{LogicalHeap}
use Rattle.md_machine.specs.Machine.{Machine, content, shape_of}
use Rattle.md_machine.specs.Meaning.{Meaning, TidyStands}
use Rattle.md_machine.specs.Resolution.{logical_heap}
use Rattle.md_machine.specs.clauses.passes.Alone.{HoldsAll}

-- no tidy change that places no node stands in the heap
abbrev pub HasNothingToTidy : Meaning → LogicalHeap → Type 0
HasNothingToTidy M h = (t : TidyChange) → t.nodes ≡ [] → M.tidies h.words.shape t → ¬ TidyStands h t

-- a store
abbrev pub is_put : Kind → Bool
is_put Store = true
is_put _ = false

-- the step is a store to the word
abbrev pub stores_to : (word : ℕ) → Step → Bool
stores_to word s = (s.word == word) && is_put s.kind

-- an install
abbrev pub is_install : Kind → Bool
is_install Installs = true
is_install _ = false

-- the step is an install in the word that won
abbrev pub installs_in : (word : ℕ) → Step → Bool
installs_in word s = (s.word == word) && (is_install s.kind && not (s.before == s.after))

-- how many of some steps raise the word's count so: each by 2, once the descriptor of an install is taken out
abbrev pub raises : (word : ℕ) → List Step → ℕ
raises word steps = count_by (stores_to word) steps + count_by (installs_in word) steps

-- of two steps on a counted word the later one found a count no lower than the earlier one left
abbrev pub CountsRise : Shape → List Step → Type 0
CountsRise shape steps = (earlier : List Step) (s : Step) (later : List Step) → steps ≡ earlier ++ s ∷ later → (t : Step) → Contains later t
    → IsCounted shape s.word → t.word ≡ s.word → count_of s.after ≤ count_of t.before

-- the step is on the next word of a node of a lane, and was made for an attempt
pub record StoresNext (shape : Shape) (s : Step) : Type 0 where
  pub lane : ℕ
  pub node : ℕ
  pub owns : OwnsNode shape lane node
  pub there : s.word ≡ address shape (node_next node)
  pub attempt : AttemptId
  pub for : s.attempt ≡ Some attempt

-- a store to a counted word is such a step, and an install that won was made for an attempt
pub record IsMade (shape : Shape) (s : Step) : Type 0 where
  pub stores : s.kind ≡ Store → IsCounted shape s.word → StoresNext shape s
  pub installs : s.kind ≡ Installs → s.before ≢ s.after → (a : AttemptId) × (s.attempt ≡ Some a)

-- what a pass that holds all lanes and never joined another one tells of the counts in the field
pub record IsLow (m : Machine) (p : PassView) : Type 0 where
  pub counts : (word : ℕ) → IsCounted (shape_of m) word
      → count_of (content m word) ≤ count_of (slice_index m.opening.words word) + 2 * raises word p.trail
  pub rise : CountsRise (shape_of m) p.trail
  pub made : (s : Step) → Contains p.trail s → IsMade (shape_of m) s

-- so it is in every machine without an entry to which events lead from an opening with nothing to tidy
abbrev pub AlwaysLow : Meaning → Type 0
AlwaysLow M = (o : Opening) (events : List Event) (m : Machine) → CanOpen M o → Runs M (opened o) events m
    → HasNothingToTidy M (logical_heap (opened o) []) → m.history ≡ []
    → (pass : ℕ) (p : PassView) → Acts m pass p → HoldsAll (shape_of m) p → p.past ≡ [] → IsLow m p
