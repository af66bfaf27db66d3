-- What a status shows of an attempt that a step met in a word before it.
use Rattle.std.specs.Prelude.{◌≡◌, ℕ, false, List, ◌∷◌, ◌++◌, slice_index, Contains, ◌⊎◌}
use Rattle.md_words.specs.declared.shape.Shape.{Shape}
use Rattle.md_words.specs.Content.{count_of, is_even}
use Rattle.md_words.specs.Status.{serial_of}
use Rattle.md_words.specs.Place.{desc_status}
use Rattle.md_words.specs.PlaceAt.{IsCounted}
use Rattle.md_machine.specs.declared.pass.PassView.{PassView}
use Rattle.md_machine.specs.declared.step.Step.{Step}
use Rattle.md_machine.specs.Machine.{IsAt, Machine, shape_of, word_at}
use Rattle.md_machine.specs.Trail.{segments}
use Rattle.md_machine.specs.events.Uninstall.{desc_in, status_of_desc}

-- a step met a content with an odd count in a counted word
pub record MeetsOdd (shape : Shape) (word held : ℕ) (s : Step) : Type 0 where
  pub counted : IsCounted shape word
  pub odd : is_even (count_of held) ≡ false
  pub there : s.word ≡ word
  pub met : (s.before ≡ held) ⊎ (s.after ≡ held)

-- a step found and left statuses with this serial
pub record NotesSerial (serial : ℕ) (t : Step) : Type 0 where
  pub before : serial_of t.before ≡ serial
  pub after : serial_of t.after ≡ serial

-- the serial that stands in the status of the descriptor which is in a word with this content
abbrev pub serial_in : Shape → List ℕ → (held : ℕ) → ℕ
serial_in shape words held = serial_of (word_at shape words (desc_status (desc_in held)))

-- where a step met what stands in its word now, with an odd count, a later step on the status of the descriptor there
-- noted its present serial
abbrev pub NotesStanding : Shape → List ℕ → (s t : Step) → Type 0
NotesStanding shape words s t = let held = slice_index words s.word in MeetsOdd shape s.word held s
    → t.word ≡ status_of_desc shape held → NotesSerial (serial_in shape words held) t

-- so it is of any two steps of a segment
abbrev pub StatusesBracketed : Machine → Type 0
StatusesBracketed m = (pass : ℕ) (p : PassView) → IsAt m pass p → (earlier : List Step) (s : Step) (later : List Step)
    → Contains (segments p) (earlier ++ s ∷ later)
    → (t : Step) → Contains later t → NotesStanding (shape_of m) m.words s t
