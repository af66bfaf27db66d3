-- What was noted of words.
use Rattle.std.specs.Prelude.{◌≡◌, ◌<◌, ◌≤◌, ℕ, Contains, ◌⊎◌}
use Rattle.md_words.specs.Content.{count_of}
use Rattle.md_words.specs.Status.{reads_of}
use Rattle.md_words.specs.Place.{read_word, read_content}
use Rattle.md_words.specs.Layout.{desc_count}
use Rattle.md_words.specs.PlaceAt.{IsCounted}
use Rattle.md_machine.specs.declared.pass.PassView.{PassView}
use Rattle.md_machine.specs.Machine.{Install, IsAt, Machine, content, shape_of, status_at, word_at, IsPresentIn}
use Rattle.md_machine.specs.Trail.{Meets, SomeStepOf}

-- a trail has the content as found or left in the word
abbrev pub NotedByTrail : Machine → (word held : ℕ) → Type 0
NotedByTrail m word held = (pass : ℕ) × (p : PassView) × IsAt m pass p × SomeStepOf p (Meets word held)

-- one of the reads that a status counts has it for the word
abbrev pub NotedByRead : Machine → (word held : ℕ) → Type 0
NotedByRead m word held = (desc : ℕ) × (i : ℕ) × (desc < desc_count (shape_of m)) × (i < reads_of (status_at m desc))
    × (word_at (shape_of m) m.words (read_word desc i) ≡ word) × (word_at (shape_of m) m.words (read_content desc i) ≡ held)

-- it is the old content of a slot that the present attempt of a descriptor installed in the word
abbrev pub NotedBySlot : Machine → (word held : ℕ) → Type 0
NotedBySlot m word held = (i : Install) × Contains m.installs i × IsPresentIn (shape_of m) m.words i.attempt × (i.word ≡ word) × (i.old ≡ held)

-- it is noted for the word
abbrev pub IsNoted : Machine → (word held : ℕ) → Type 0
IsNoted m word held = NotedByTrail m word held ⊎ (NotedByRead m word held ⊎ NotedBySlot m word held)

-- a noted content of a counted word has a count of at most the word's count now, and equal counts mean equal contents
pub record StampsHold (m : Machine) : Type 0 where
  pub bound : (word held : ℕ) → IsCounted (shape_of m) word → IsNoted m word held → count_of held ≤ count_of (content m word)
  pub now : (word held : ℕ) → IsCounted (shape_of m) word → IsNoted m word held → count_of held ≡ count_of (content m word) → held ≡ content m word
  pub same : (word held other : ℕ) → IsCounted (shape_of m) word → IsNoted m word held → IsNoted m word other → count_of held ≡ count_of other → held ≡ other
