-- How words and the history go on over an event.
use Rattle.std.specs.Prelude.{◌≡◌, ◌<◌, ◌≤◌, ℕ, Bool, true, false, [], ◌∷◌, Contains, ◌⊎◌}
use Rattle.md_words.specs.declared.status.Status.{Status}
use Rattle.md_words.specs.declared.status.Status.TheVariants.{InPrep, InProg, Committed, Aborted}
use Rattle.md_words.specs.Content.{count_of}
use Rattle.md_words.specs.Status.{status_of, reads_of, serial_of}
use Rattle.md_words.specs.Layout.{desc_count}
use Rattle.md_words.specs.PlaceAt.{IsCounted}
use Rattle.md_history.specs.Front.{AllStay, BeginsOn, IsPrefix}
use Rattle.md_machine.specs.declared.pass.PassView.{PassView}
use Rattle.md_machine.specs.Legal.{front_of}
use Rattle.md_machine.specs.Machine.{IsAt, Machine, content, shape_of, status_at}

-- a status moves from InPrep to InProg or Aborted, and from InProg to Committed or Aborted, or stays
abbrev pub moves_to : Status → Status → Bool
moves_to InPrep InPrep = true
moves_to InPrep InProg = true
moves_to InPrep Committed = false
moves_to InPrep Aborted = true
moves_to InProg InPrep = false
moves_to InProg InProg = true
moves_to InProg Committed = true
moves_to InProg Aborted = true
moves_to Committed Committed = true
moves_to Committed _ = false
moves_to Aborted Aborted = true
moves_to Aborted _ = false

-- an attempt goes on: its status moves or the whole word stays, and once it is in progress its reads stay
pub record AttemptGoesOn (old new : ℕ) : Type 0 where
  pub serial : serial_of old ≡ serial_of new
  pub moves : moves_to (status_of old) (status_of new) ≡ true
  pub same : status_of old ≡ status_of new → old ≡ new
  pub reads : status_of old ≡ InProg → reads_of old ≡ reads_of new

-- a serial never falls, and with the same serial the attempt goes on
abbrev pub StatusGoesOn : (old new : ℕ) → Type 0
StatusGoesOn old new = (serial_of old < serial_of new) ⊎ AttemptGoesOn old new

-- whoever holds a lane has seen and knows all that its holder before did, and its answers of the lane begin with that
-- one's
abbrev pub FrontsGoOn : (m n : Machine) → Type 0
FrontsGoOn m n = (before after lane : ℕ) (p q : PassView) → IsAt m before p → IsAt n after q
    → Contains p.lanes lane → Contains q.lanes lane
    → BeginsOn (lane ∷ []) (front_of (shape_of m) p) (front_of (shape_of m) q)

-- over an event: the history grows at its end alone, a decided fate stays, statuses and fronts go on, and no count
-- falls
pub record MachineGoesOn (m n : Machine) : Type 0 where
  pub opening : n.opening ≡ m.opening
  pub history : IsPrefix m.history n.history
  pub fates : AllStay m.fates n.fates
  pub status : (desc : ℕ) → desc < desc_count (shape_of m) → StatusGoesOn (status_at m desc) (status_at n desc)
  pub fronts : FrontsGoOn m n
  pub count : (word : ℕ) → IsCounted (shape_of m) word → count_of (content m word) ≤ count_of (content n word)
