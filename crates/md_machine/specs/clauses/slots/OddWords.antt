-- Which attempts stand in words with an odd count.
use Rattle.std.specs.Prelude.{◌≡◌, ℕ, false, List, slice_index, Contains}
use Rattle.md_words.specs.declared.shape.Shape.{Shape}
use Rattle.md_words.specs.Content.{count_of, is_even}
use Rattle.md_words.specs.PlaceAt.{IsCounted}
use Rattle.md_machine.specs.Installs.{spot_of_install}
use Rattle.md_machine.specs.Machine.{Install, IsPresentIn}
use Rattle.md_machine.specs.events.Install.{installed_word}

-- the install of a present attempt stands in the word
pub record StandsIn (shape : Shape) (words : List ℕ) (installs : List Install) (word : ℕ) : Type 0 where
  pub install : Install
  pub made : Contains installs install
  pub present : IsPresentIn shape words install.attempt
  pub there : install.word ≡ word
  pub holds : slice_index words word ≡ installed_word install.old (spot_of_install install)

-- each odd word holds a slot that the present attempt of its descriptor installed there
abbrev pub OddStand : Shape → List ℕ → List Install → Type 0
OddStand shape words installs = (word : ℕ) → IsCounted shape word → is_even (count_of (slice_index words word)) ≡ false → StandsIn shape words installs word
