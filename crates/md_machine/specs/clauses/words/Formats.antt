-- What each word of a field looks like.
use Rattle.std.specs.Prelude.{◌≡◌, ◌+◌, ◌<◌, ◌≤◌, ℕ, false, List, slice_index, ◌⊎◌}
use Rattle.md_words.specs.declared.shape.Shape.{Shape}
use Rattle.md_words.specs.declared.limits.TheConstants.{SET}
use Rattle.md_words.specs.declared.status.Status.TheVariants.{InPrep}
use Rattle.md_words.specs.Content.{count_of, is_even}
use Rattle.md_words.specs.Status.{status_of, reads_of, serial_of}
use Rattle.md_words.specs.Place.{desc_status, read_word, slot_word, slot_new}
use Rattle.md_words.specs.Layout.{desc_count, IsInSet}
use Rattle.md_words.specs.LayoutLaws.{IsField}
use Rattle.md_words.specs.PlaceAt.{IsCounted}
use Rattle.md_machine.specs.declared.step.TheConstants.{LAST_COUNT, VALUES}
use Rattle.md_machine.specs.Machine.{word_at}

-- a status word: its reads fit, are 0 before it is ready, and its serial is one of the tries
pub record StatusFits (shape : Shape) (held : ℕ) : Type 0 where
  pub few : reads_of held ≤ SET
  pub unready : status_of held ≡ InPrep → reads_of held ≡ 0
  pub try : serial_of held < shape.tries

-- a word of a read or a slot is 0, or a counted word
abbrev pub NamesWord : Shape → ℕ → Type 0
NamesWord shape held = (held ≡ 0) ⊎ IsCounted shape held

-- all words have their formats; an odd count has room for an uninstall, and a slot's new value is a counted word's
pub record AreFormats (shape : Shape) (words : List ℕ) : Type 0 where
  pub field : IsField shape words
  pub base : slice_index words 0 ≡ 0
  pub room : (word : ℕ) → IsCounted shape word → is_even (count_of (slice_index words word)) ≡ false → count_of (slice_index words word) ≤ LAST_COUNT + 1
  pub status : (desc : ℕ) → desc < desc_count shape → StatusFits shape (word_at shape words (desc_status desc))
  pub reads : (desc i : ℕ) → IsInSet shape desc i → NamesWord shape (word_at shape words (read_word desc i))
  pub slots : (desc j : ℕ) → IsInSet shape desc j → NamesWord shape (word_at shape words (slot_word desc j))
  pub values : (desc j : ℕ) → IsInSet shape desc j → word_at shape words (slot_new desc j) < VALUES
