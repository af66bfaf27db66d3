-- Undecided attempts stand in the words where they were installed.
use Rattle.std.specs.Prelude.{◌≡◌, ℕ, List, slice_index, Contains}
use Rattle.md_words.specs.declared.shape.Shape.{Shape}
use Rattle.md_words.specs.Place.{desc_status}
use Rattle.md_machine.specs.Installs.{IsUndecided, spot_of_install}
use Rattle.md_machine.specs.Machine.{Install, word_at, IsPresentIn}
use Rattle.md_machine.specs.events.Install.{installed_word}

-- as long as an attempt is undecided, each slot that it installed stands in its word
abbrev pub UndecidedStand : Shape → List ℕ → List Install → Type 0
UndecidedStand shape words installs = (i : Install) → Contains installs i → IsPresentIn shape words i.attempt → IsUndecided (word_at shape words (desc_status i.attempt.desc))
    → slice_index words i.word ≡ installed_word i.old (spot_of_install i)
