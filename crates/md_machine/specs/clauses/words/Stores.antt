-- What was stored last for a present attempt stands.
use Rattle.std.specs.Prelude.{◌≡◌, ℕ}
use Rattle.md_words.specs.Place.{Place, read_word, read_content, slot_word, slot_old, slot_new}
use Rattle.md_words.specs.PlaceAt.{place_at}
use Rattle.md_machine.specs.declared.attempt.AttemptId.{AttemptId}
use Rattle.md_machine.specs.declared.pass.PassView.{PassView}
use Rattle.md_machine.specs.Machine.{IsAt, Machine, content, shape_of, IsPresentIn}
use Rattle.md_machine.specs.Trail.{LastStored}

-- the place is a read or a slot of the descriptor
abbrev pub IsEntryWord : (desc : ℕ) → Place → Type 0
IsEntryWord desc (read_word d i) = d ≡ desc
IsEntryWord desc (read_content d i) = d ≡ desc
IsEntryWord desc (slot_word d j) = d ≡ desc
IsEntryWord desc (slot_old d j) = d ≡ desc
IsEntryWord desc (slot_new d j) = d ≡ desc
IsEntryWord desc _ = ⊥

-- what was stored last for a present attempt in a read or slot word of its descriptor is what stands there
abbrev pub StoresAgree : Machine → Type 0
StoresAgree m = (pass : ℕ) (p : PassView) → IsAt m pass p → (a : AttemptId) → IsPresentIn (shape_of m) m.words a → (word held : ℕ) → IsEntryWord a.desc (place_at (shape_of m) word) → LastStored p a word held → content m word ≡ held
