-- Which descriptors steps met in words.
use Rattle.std.specs.Prelude.{◌≡◌, ℕ, false, List}
use mathlib.Core.Option.{some}
use lib.ListN.{get_elem?}
use Rattle.md_words.specs.declared.shape.Shape.{Shape}
use Rattle.md_words.specs.Content.{count_of, is_even, spot_of, value_of}
use Rattle.md_words.specs.Layout.{IsInSet}
use Rattle.md_words.specs.PlaceAt.{IsCounted}
use Rattle.md_machine.specs.declared.pass.PassView.{PassView}
use Rattle.md_machine.specs.Trail.{EveryStepOf}

-- a content with an odd count names a descriptor of the field and one of its slots
abbrev pub NamesSlot : Shape → (held : ℕ) → Type 0
NamesSlot shape held = is_even (count_of held) ≡ false → IsInSet shape (spot_of (value_of held)).desc (spot_of (value_of held)).slot

-- so it is of what steps met in counted words
abbrev pub MetSpotsExist : Shape → List PassView → Type 0
MetSpotsExist shape passes = (pass : ℕ) (p : PassView) → get_elem? passes pass ≡ some p
    → EveryStepOf p (λ s. IsCounted shape s.word → NamesSlot shape s.before × NamesSlot shape s.after)
