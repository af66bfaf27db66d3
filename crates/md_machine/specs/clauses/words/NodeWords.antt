-- What steps found in the keys and values of placed nodes.
use Rattle.std.specs.Prelude.{◌≡◌, ℕ, true, List, slice_index}
use Rattle.md_words.specs.declared.shape.Shape.{Shape}
use Rattle.md_words.specs.PlaceAt.{place_at}
use Rattle.md_machine.specs.declared.pass.PassView.{PassView}
use Rattle.md_machine.specs.declared.step.Step.{Step}
use Rattle.md_machine.specs.Machine.{IsAt, Machine, shape_of}
use Rattle.md_machine.specs.Own.{IsDataOf}
use Rattle.md_machine.specs.Trail.{EveryStepOf}

-- a step found and left what stands in its word
pub record StandsAsFound (words : List ℕ) (s : Step) : Type 0 where
  pub before : s.before ≡ slice_index words s.word
  pub after : s.after ≡ slice_index words s.word

-- a flagged step on the key or the value of a node found what stands there now: such a word of a placed node never
-- changes
abbrev pub DataStands : Shape → List ℕ → PassView → Type 0
DataStands shape words p = EveryStepOf p (λ s. s.placed ≡ true → (node : ℕ) → IsDataOf node (place_at shape s.word) → StandsAsFound words s)

abbrev pub NodeWordsStand : Machine → Type 0
NodeWordsStand m = (pass : ℕ) (p : PassView) → IsAt m pass p → DataStands (shape_of m) m.words p
