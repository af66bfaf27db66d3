-- A descriptor that stands in a word is aborted and taken out by another pass.
use Rattle.std.specs.Prelude.{◌≡◌, List, [], ◌∷◌}
use Rattle.md_words.specs.Place.{desc_status, slot_new, slot_old, slot_word}
use Rattle.md_machine.specs.Event.{Event, Runs, abort, install, load, mark_begin, opened, split, store, uninstall}
use Rattle.md_machine.specs.Machine.{Machine, content}
use Rattle.md_machine.specs.Meaning.{Meaning}
use Rattle.md_machine_schedules.specs.Field.{bucket, first_slot, link_to, place_word, small_opening, standing}
use Rattle.md_machine_schedules.specs.Walk.{after_all, no_certificates}

-- pass 0 begins, fills its first slot and installs it in the bucket
abbrev pub installing : List Event
installing =
    split 0 ∷ mark_begin 0 0 0 ∷ store 0 (place_word (slot_word 0 0)) bucket ∷ store 0 (place_word (slot_old 0 0)) 0 ∷
    store 0 (place_word (slot_new 0 0)) (link_to 2) ∷ install 0 bucket 0 (first_slot 0) ∷ []

-- pass 1 finds it there and clears it
abbrev pub clearing : List Event
clearing =
    load 1 bucket ∷ load 1 (place_word (desc_status 0)) ∷ load 1 bucket ∷ abort 1 0 0 ∷
    load 1 (place_word (slot_old 0 0)) ∷ uninstall 1 bucket (standing 0) 0 ∷ []

abbrev pub installed : Machine
installed = after_all no_certificates (opened small_opening) installing

abbrev pub cleared : Machine
cleared = after_all no_certificates installed clearing

-- an undecided descriptor that stands in a word is aborted and taken out, and the word has its old value again
pub record ClearingRow (M : Meaning) : Type 0 where
  pub installs : Runs M (opened small_opening) installing installed
  pub stands : content installed bucket ≡ 1
  pub clears : Runs M installed clearing cleared
  pub status : content cleared (place_word (desc_status 0)) ≡ 3
  pub left : content cleared bucket ≡ 2
