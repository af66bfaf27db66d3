-- The event uninstall: a descriptor is taken out of a word.
use Rattle.std.specs.Prelude.{◌≡◌, ◌+◌, ◌++◌, ℕ, false, List, ◌∷◌, Contains, ◌⊎◌}
use Rattle.md_words.specs.declared.shape.Shape.{Shape}
use Rattle.md_words.specs.declared.content.Spot.{Spot}
use Rattle.md_words.specs.declared.status.Status.{Status}
use Rattle.md_words.specs.declared.status.Status.TheVariants.{Committed, Aborted}
use Rattle.md_words.specs.Content.{value_of, count_of, is_even, spot_of, counted_word}
use Rattle.md_words.specs.Status.{status_of, serial_of}
use Rattle.md_words.specs.Place.{Place, desc_status, slot_old, slot_new}
use Rattle.md_words.specs.Layout.{address}
use Rattle.md_words.specs.PlaceAt.{IsCounted}
use Rattle.md_machine.specs.declared.step.Step.{Step}
use Rattle.md_machine.specs.declared.step.Kind.TheVariants.{Uninstall}
use Rattle.md_machine.specs.declared.pass.PassView.{PassView}
use Rattle.md_machine.specs.Machine.{Machine, attempt_of, present, shape_of}
use Rattle.md_machine.specs.Own.{HasDesc}
use Rattle.md_machine.specs.Stepping.{exchanged, left_by, replaced}
use Rattle.md_machine.specs.Trail.{Finds, LastStored, Loads, Meets, SomeStep, SomeStepOf, StepOf, segments}

-- the word of a slot that a fate takes the value from, and that value: the new one after Committed, and that of the old
-- content after Aborted
abbrev pub slot_by_fate : Status → Spot → Place
slot_by_fate Committed spot = slot_new spot.desc spot.slot
slot_by_fate _ spot = slot_old spot.desc spot.slot

abbrev pub value_by_fate : Status → ℕ → ℕ
value_by_fate Committed held = held
value_by_fate _ held = value_of held

abbrev pub IsDecided : Status → Type 0
IsDecided status = (status ≡ Committed) ⊎ (status ≡ Aborted)

-- the descriptor that stands in a word with this content, its status word, and the slot word that the status takes the
-- value from
abbrev pub desc_in : ℕ → ℕ
desc_in from = (spot_of (value_of from)).desc

abbrev pub status_of_desc : Shape → (from : ℕ) → ℕ
status_of_desc shape from = address shape (desc_status (desc_in from))

abbrev pub slot_of_desc : Shape → (from status : ℕ) → ℕ
slot_of_desc shape from status = address shape (slot_by_fate (status_of status) (spot_of (value_of from)))

-- a step found a status of the descriptor with this serial
abbrev pub FindsSerial : (word serial : ℕ) → Step → Type 0
FindsSerial word serial s = (held : ℕ) × Finds word held s × (serial_of held ≡ serial)

-- what a helper saw, in this order: the content in the word; a status with the serial; the content again; what the slot
-- holds. Before it loaded the slot, and after it saw the content first, it found or left the decided status
pub record HelperSaw (shape : Shape) (p : PassView) (word from status held : ℕ) : Type 0 where
  pub earlier : List Step
  pub found : Step
  pub first : List Step
  pub again : Step
  pub second : List Step
  pub loaded : Step
  pub later : List Step
  pub segment : Contains (segments p) (earlier ++ found ∷ (first ++ again ∷ (second ++ loaded ∷ later)))
  pub finds : Finds word from found
  pub asks : SomeStep (FindsSerial (status_of_desc shape from) (serial_of status)) first
  pub finds_again : Finds word from again
  pub decided : SomeStep (Meets (status_of_desc shape from) status) (first ++ again ∷ second)
  pub loads : Loads (slot_of_desc shape from status) held loaded

-- the owner loaded the slot after it found or left the decided status, and after it found or left the content
pub record OwnerLoads (shape : Shape) (p : PassView) (word from status held : ℕ) : Type 0 where
  pub load : StepOf p (Loads (slot_of_desc shape from status) held)
  pub decided : SomeStep (Meets (status_of_desc shape from) status) load.earlier
  pub stood : SomeStep (Meets word from) load.earlier

-- what the owner knows: the status is that of its present attempt, and the slot has what it stored there last for the
-- attempt, or what it loaded there
pub record OwnerKnows (m : Machine) (p : PassView) (word from status held : ℕ) : Type 0 where
  pub own : HasDesc (shape_of m) p (desc_in from)
  pub present : serial_of status ≡ (present m (desc_in from)).serial
  pub met : SomeStepOf p (Meets (status_of_desc (shape_of m) from) status)
  pub slot : LastStored p (attempt_of (desc_in from) (serial_of status)) (slot_of_desc (shape_of m) from status) held ⊎ OwnerLoads (shape_of m) p word from status held

-- uninstall: the attempt that stands there is known to be decided, and the value is the one that its fate gives
pub record MayUninstall (m : Machine) (p : PassView) (word from value : ℕ) : Type 0 where
  pub counted : IsCounted (shape_of m) word
  pub odd : is_even (count_of from) ≡ false
  pub status : ℕ
  pub decided : IsDecided (status_of status)
  pub held : ℕ
  pub knows : OwnerKnows m p word from status held ⊎ HelperSaw (shape_of m) p word from status held
  pub is : value_by_fate (status_of status) held ≡ value

-- what it leaves in the word
abbrev pub uninstalled_word : (from value : ℕ) → ℕ
uninstalled_word from value = counted_word value (count_of from + 1)

abbrev pub after_uninstall : Machine → (pass : ℕ) → PassView → (word from value : ℕ) → Machine
after_uninstall m pass p word from value =
    replaced m pass (exchanged m p Uninstall word from (uninstalled_word from value)) word (left_by m word from (uninstalled_word from value))
