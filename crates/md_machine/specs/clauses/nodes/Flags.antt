-- What the flags of steps tell.
use Rattle.std.specs.Prelude.{◌≡◌, ℕ, true, List, Contains}
use Rattle.md_words.specs.declared.shape.Shape.{Shape}
use Rattle.md_words.specs.Place.{Place}
use Rattle.md_words.specs.PlaceAt.{place_at}
use Rattle.md_machine.specs.declared.node.PlacedNode.{PlacedNode}
use Rattle.md_machine.specs.declared.pass.PassView.{PassView}
use Rattle.md_machine.specs.Machine.{IsAt, Machine, shape_of}
use Rattle.md_machine.specs.Own.{IsWordOf}
use Rattle.md_machine.specs.Trail.{EveryStepOf}

-- the place is a word of a noted node
pub record NotesWord (noted : List PlacedNode) (place : Place) : Type 0 where
  pub node : PlacedNode
  pub among : Contains noted node
  pub is : IsWordOf node.node place

-- a pass has noted the nodes of those words that its steps found on nodes placed in every resolution
abbrev pub NotesFlagged : Shape → PassView → Type 0
NotesFlagged shape p = EveryStepOf p (λ s. s.placed ≡ true → NotesWord p.placed (place_at shape s.word))

abbrev pub FlaggedAreNoted : Machine → Type 0
FlaggedAreNoted m = (pass : ℕ) (p : PassView) → IsAt m pass p → NotesFlagged (shape_of m) p
