-- Which reads of entries stood, and that those that didn't never stand again.
use Rattle.std.specs.Prelude.{◌≡◌, ◌<◌, ℕ, true, false, List, ◌∷◌, ◌++◌, Contains, slice_index}
use Rattle.md_words.specs.declared.shape.Shape.{Shape}
use Rattle.md_words.specs.Content.{count_of}
use Rattle.md_machine.specs.declared.attempt.HistoryEntry.{HistoryEntry}
use Rattle.md_machine.specs.declared.attempt.Read.{Read}
use Rattle.md_machine.specs.declared.pass.PassView.{PassView}
use Rattle.md_machine.specs.declared.step.Step.{Step}
use Rattle.md_machine.specs.Machine.{IsAt, Machine, shape_of}
use Rattle.md_machine.specs.Trail.{is_store, read_stands, segments}
use Rattle.md_machine.specs.clauses.words.Loads.{MeetsReady}

-- the read's word has a higher count, and holds neither what was recorded nor the read's descriptor at the next count
pub record ReadMoved (words : List ℕ) (e : HistoryEntry) (r : Read) : Type 0 where
  pub count : count_of r.content < count_of (slice_index words r.word)
  pub gone : read_stands e.attempt.desc r.content (slice_index words r.word) ≡ false

-- so it is of each read that didn't stand when its attempt became ready
abbrev pub MovedReads : List ℕ → List HistoryEntry → Type 0
MovedReads words history = (e : HistoryEntry) → Contains history e → (r : Read) → Contains e.reads r → r.stood ≡ false → ReadMoved words e r

-- where a step met a status of an entry's attempt other than InPrep, and a later one finds a read to stand, that read
-- stood when the attempt became ready
abbrev pub ReadFound : Shape → List HistoryEntry → (s t : Step) → Type 0
ReadFound shape history s t = (e : HistoryEntry) → Contains history e → MeetsReady shape e.attempt s → (r : Read) → Contains e.reads r → t.word ≡ r.word → is_store t.kind ≡ false
    → read_stands e.attempt.desc r.content t.before ≡ true → r.stood ≡ true

-- so it is of any two steps of a segment
abbrev pub ReadsFound : Machine → Type 0
ReadsFound m = (pass : ℕ) (p : PassView) → IsAt m pass p → (earlier : List Step) (s : Step) (later : List Step) → Contains (segments p) (earlier ++ s ∷ later)
    → (t : Step) → Contains later t → ReadFound (shape_of m) m.history s t

-- what the reads of entries show
pub record ReadsShow (m : Machine) : Type 0 where
  pub moved : MovedReads m.words m.history
  pub found : ReadsFound m
