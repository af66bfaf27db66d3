-- Which serials a pass met of the descriptors of its lanes.
use Rattle.std.specs.Prelude.{◌≡◌, ℕ, List, ◌⊎◌}
use mathlib.Core.Option.{some}
use lib.ListN.{get_elem?}
use Rattle.md_words.specs.declared.shape.Shape.{Shape}
use Rattle.md_words.specs.Status.{serial_of}
use Rattle.md_words.specs.Place.{desc_status}
use Rattle.md_words.specs.Layout.{address}
use Rattle.md_machine.specs.declared.pass.PassView.{PassView}
use Rattle.md_machine.specs.declared.step.Step.{Step}
use Rattle.md_machine.specs.Machine.{word_at}
use Rattle.md_machine.specs.Own.{HasDesc}
use Rattle.md_machine.specs.Trail.{Meets, SomeStepOf}

-- a step found or left a status of the descriptor with this serial
abbrev pub MeetsSerial : Shape → (desc serial : ℕ) → Step → Type 0
MeetsSerial shape desc serial s = (held : ℕ) × Meets (address shape (desc_status desc)) held s × (serial_of held ≡ serial)

-- the serial that stands in the status of an own descriptor is 0, or the pass met it
abbrev pub OwnSerialsMet : Shape → List ℕ → List PassView → Type 0
OwnSerialsMet shape words passes = (pass : ℕ) (p : PassView) → get_elem? passes pass ≡ some p → (desc : ℕ) → HasDesc shape p desc
    → let serial = serial_of (word_at shape words (desc_status desc)) in (serial ≡ 0) ⊎ SomeStepOf p (MeetsSerial shape desc serial)
