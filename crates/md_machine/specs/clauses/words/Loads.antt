-- What loads of a ready attempt's reads and slots show.
use Rattle.std.specs.Prelude.{◌≡◌, ◌≢◌, ℕ, false, List, ◌∷◌, ◌++◌, Contains, slice_index}
use Rattle.md_words.specs.declared.shape.Shape.{Shape}
use Rattle.md_words.specs.declared.status.Status.TheVariants.{InPrep}
use Rattle.md_words.specs.Status.{status_of, serial_of}
use Rattle.md_words.specs.Place.{desc_status}
use Rattle.md_words.specs.Layout.{address}
use Rattle.md_words.specs.PlaceAt.{place_at}
use Rattle.md_machine.specs.declared.attempt.AttemptId.{AttemptId}
use Rattle.md_machine.specs.declared.attempt.HistoryEntry.{HistoryEntry}
use Rattle.md_machine.specs.declared.pass.PassView.{PassView}
use Rattle.md_machine.specs.declared.step.Step.{Step}
use Rattle.md_machine.specs.Machine.{IsAt, IsPresentIn, Machine, shape_of}
use Rattle.md_machine.specs.Trail.{Meets, is_store, segments}
use Rattle.md_machine.specs.clauses.words.Stores.{IsEntryWord}

-- a step met a status of the attempt other than InPrep
abbrev pub MeetsReady : Shape → AttemptId → Step → Type 0
MeetsReady shape a s = (held : ℕ) × Meets (address shape (desc_status a.desc)) held s × (serial_of held ≡ a.serial) × (status_of held ≢ InPrep)

-- where it did so of the present attempt with this entry, a later step on a read or slot word of the descriptor, that
-- is no store, found what stands there now
abbrev pub LoadStands : Shape → List ℕ → List HistoryEntry → (s t : Step) → Type 0
LoadStands shape words history s t = (e : HistoryEntry) → Contains history e → IsPresentIn shape words e.attempt → MeetsReady shape e.attempt s
    → IsEntryWord e.attempt.desc (place_at shape t.word) → is_store t.kind ≡ false → t.before ≡ slice_index words t.word

-- so it is of any two steps of a segment
abbrev pub LoadsStand : Machine → Type 0
LoadsStand m = (pass : ℕ) (p : PassView) → IsAt m pass p → (earlier : List Step) (s : Step) (later : List Step) → Contains (segments p) (earlier ++ s ∷ later)
    → (t : Step) → Contains later t → LoadStands (shape_of m) m.words m.history s t
