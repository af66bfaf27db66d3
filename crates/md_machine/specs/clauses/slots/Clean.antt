-- What a clean attempt tells.
use Rattle.std.specs.Prelude.{◌≡◌, ℕ, false}
use Rattle.md_words.specs.PlaceAt.{IsCounted}
use Rattle.md_machine.specs.declared.pass.PassView.{PassView}
use Rattle.md_machine.specs.Machine.{IsAt, Machine, content, present, shape_of}
use Rattle.md_machine.specs.Own.{HasDesc}
use Rattle.md_machine.specs.Trail.{holds_desc}
use Rattle.md_machine.specs.events.Start.{IsClean}

-- if the present attempt of an own descriptor is clean by the pass's steps, the descriptor stands in no word
abbrev pub CleanAreOut : Machine → Type 0
CleanAreOut m = (pass : ℕ) (p : PassView) → IsAt m pass p → (desc : ℕ) → HasDesc (shape_of m) p desc → IsClean p (present m desc)
    → (word : ℕ) → IsCounted (shape_of m) word → holds_desc desc (content m word) ≡ false
