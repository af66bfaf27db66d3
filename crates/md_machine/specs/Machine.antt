-- The machine: the words of a field, its history, and what each pass knows.
use Rattle.std.specs.Prelude.{◌≡◌, ◌==◌, ◌&&◌, ◌<◌, ℕ, Bool, List, length, slice_index}
use Rattle.std.specs.List.{list_any}
use mathlib.Core.Option.{some}
use lib.ListN.{get_elem?}
use Rattle.md_words.specs.declared.shape.Shape.{Shape}
use Rattle.md_words.specs.Place.{Place, desc_status}
use Rattle.md_words.specs.Layout.{address}
use Rattle.md_words.specs.Status.{serial_of}
use Rattle.md_history.specs.declared.entries.Fate.{Fate}
use Rattle.md_machine.specs.declared.attempt.AttemptId.{AttemptId}
use Rattle.md_machine.specs.declared.attempt.HistoryEntry.{HistoryEntry}
use Rattle.md_machine.specs.declared.opening.Opening.{Opening}
use Rattle.md_machine.specs.declared.pass.PassView.{PassView}

-- an attempt put its descriptor, at one of its slots, into a word that held this content
pub record Install : Type 0 where
  pub attempt : AttemptId
  pub slot : ℕ
  pub word : ℕ
  pub old : ℕ

-- the field as it was opened, and what stands now: the words, the entries in the order in which they became ready with
-- the fate of each, every install that was won, every attempt that was in hand, and what each pass knows
pub record Machine : Type 0 where
  pub opening : Opening
  pub words : List ℕ
  pub history : List HistoryEntry
  pub fates : List Fate
  pub installs : List Install
  pub begun : List AttemptId
  pub passes : List PassView

abbrev pub shape_of : Machine → Shape
shape_of m = m.opening.shape

-- what a word holds
abbrev pub content : Machine → ℕ → ℕ
content m word = slice_index m.words word

-- what the word of a place holds
abbrev pub word_at : Shape → List ℕ → Place → ℕ
word_at shape words p = slice_index words (address shape p)

abbrev pub status_at : Machine → ℕ → ℕ
status_at m desc = word_at (shape_of m) m.words (desc_status desc)

abbrev pub same_attempt : AttemptId → AttemptId → Bool
same_attempt a b = (a.desc == b.desc) && (a.serial == b.serial)

abbrev pub attempt_of : ℕ → ℕ → AttemptId
attempt_of desc serial = record { desc = desc; serial = serial }

-- the attempt of a descriptor whose serial stands in its status
abbrev pub present : Machine → ℕ → AttemptId
present m desc = attempt_of desc (serial_of (status_at m desc))

-- the attempt is the present one of its descriptor, by these words
abbrev pub IsPresentIn : Shape → List ℕ → AttemptId → Type 0
IsPresentIn shape words a = a.serial ≡ serial_of (word_at shape words (desc_status a.desc))

-- an attempt was in hand, and became ready
abbrev pub was_begun : List AttemptId → AttemptId → Bool
was_begun begun a = list_any (λ b. same_attempt b a) begun

abbrev pub is_ready : List HistoryEntry → AttemptId → Bool
is_ready history a = list_any (λ e. same_attempt e.attempt a) history

-- an attempt installed a slot
abbrev pub is_installed : List Install → AttemptId → ℕ → Bool
is_installed installs a slot = list_any (λ i. same_attempt i.attempt a && (i.slot == slot)) installs

-- a pass stands in the machine, and isn't spent
abbrev pub IsAt : Machine → ℕ → PassView → Type 0
IsAt m pass p = get_elem? m.passes pass ≡ some p

abbrev pub IsLive : PassView → Type 0
IsLive p = 0 < length p.lanes
