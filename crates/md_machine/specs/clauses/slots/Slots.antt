-- What the slots of present attempts hold.
use Rattle.std.specs.Prelude.{◌≡◌, ℕ, List, Contains}
use Rattle.md_words.specs.declared.shape.Shape.{Shape}
use Rattle.md_words.specs.Place.{slot_word, slot_old}
use Rattle.md_words.specs.Layout.{IsInSet}
use Rattle.md_machine.specs.Machine.{Install, word_at, IsPresentIn}

-- the slot of an install names its word and its old content
pub record SlotStands (shape : Shape) (words : List ℕ) (i : Install) : Type 0 where
  pub exists : IsInSet shape i.attempt.desc i.slot
  pub word : word_at shape words (slot_word i.attempt.desc i.slot) ≡ i.word
  pub old : word_at shape words (slot_old i.attempt.desc i.slot) ≡ i.old

-- and each slot that a present attempt installed names its word and its old content
abbrev pub SlotsStand : Shape → List ℕ → List Install → Type 0
SlotsStand shape words installs = (i : Install) → Contains installs i → IsPresentIn shape words i.attempt → SlotStands shape words i
