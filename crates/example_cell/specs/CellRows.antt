-- Certificates of the cell, and a field in which it may begin.
use Rattle.std.specs.Prelude.{ℕ, true, false, List, [], ◌∷◌, All, replicate, Some, None}
use Rattle.md_words.specs.declared.shape.Shape.{Shape}
use Rattle.md_words.specs.Layout.{words_of}
use Rattle.md_history.specs.declared.acts.Op.{Op}
use Rattle.md_history.specs.declared.acts.Op.TheVariants.{Get, Insert, Remove, Put}
use Rattle.md_history.specs.declared.acts.Reply.{Reply}
use Rattle.md_history.specs.declared.acts.Reply.TheVariants.{Value, Flag}
use Rattle.md_machine.specs.declared.certificate.Certificate.{Certificate}
use Rattle.md_machine.specs.declared.opening.Opening.{Opening}
use Rattle.md_machine.specs.Event.{CanOpen}
use Rattle.example_cell.specs.CellMeaning.{cell_word, cell_meaning, CellCertifies}

-- an operation that found this, and one that changed it
abbrev pub looks : Shape → Op → Reply → (held : ℕ) → Certificate
looks shape op reply held = record { op = op; reply = reply; tidy = []; recorded = record { word = cell_word shape; value = held } ∷ []; changes = []; nodes = []; facts = [] }

abbrev pub sets : Shape → Op → Reply → (old new : ℕ) → Certificate
sets shape op reply old new = record { op = op; reply = reply; tidy = []; recorded = []; changes = record { word = cell_word shape; old = old; new = new } ∷ []; nodes = []; facts = [] }

-- the key isn't there, it is inserted with 10, found, not inserted again, set to 7, and removed
abbrev pub one_transaction : Shape → List Certificate
one_transaction shape =
    looks shape (Get 0 0) (Value None) 0
    ∷ sets shape (Insert 0 0 10) (Flag true) 0 11
    ∷ looks shape (Get 0 0) (Value (Some 10)) 11
    ∷ looks shape (Insert 0 0 7) (Flag false) 11
    ∷ sets shape (Put 0 0 7) (Value (Some 10)) 11 8
    ∷ sets shape (Remove 0 0) (Value (Some 7)) 8 0
    ∷ []

abbrev pub CellRow : Type 0
CellRow = (shape : Shape) → All (CellCertifies shape) (one_transaction shape)

-- a field in which every word is 0
abbrev pub blank : Shape → Opening
blank shape = record { shape = shape; words = replicate (words_of shape) 0; placed = [] }

abbrev pub BlankOpens : Type 0
BlankOpens = (shape : Shape) → CanOpen cell_meaning (blank shape)
