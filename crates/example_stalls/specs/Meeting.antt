-- What a pass met in the cell's word.
use Rattle.std.specs.Prelude.{◌≡◌, ◌∷◌, ℕ, true, false, []}
use Rattle.md_words.specs.declared.shape.Shape.{Shape}
use Rattle.md_words.specs.Content.{count_of, is_even, word_of}
use Rattle.md_machine.specs.declared.pass.PassView.{PassView}
use Rattle.md_machine.specs.declared.step.Step.{Step}
use Rattle.md_machine.specs.Trail.{Loads}
use Rattle.example_cell.specs.CellMeaning.{cell_word}
use Rattle.md_help.specs.After.{IsAfter}
use Rattle.md_help.specs.Clears.{Clears}
use Rattle.example_stalls.specs.declared.meeting.Met.{Met}
use Rattle.example_stalls.specs.declared.meeting.Met.TheVariants.{Plain, Cleared}

-- one load found this content in the cell's word
pub record Looks (shape : Shape) (held : ℕ) (before after : PassView) : Type 0 where
  pub look : Step
  pub goes : IsAfter shape (look ∷ []) before after
  pub loads : Loads (cell_word shape) held look

-- what a pass met in the cell: a plain content; or one with a descriptor, which was cleared then
abbrev pub MeetsCell : Shape → Met → (before after : PassView) → Type 0
MeetsCell shape (Plain found) before after = Looks shape (word_of found) before after × (is_even found.count ≡ true)
MeetsCell shape (Cleared c) before after = (held : ℕ) × (between : PassView) × Looks shape held before between
    × (is_even (count_of held) ≡ false) × Clears shape (cell_word shape) held c between after
