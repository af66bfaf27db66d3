-- What contracts see of a field and of a pass.
use Rattle.std.specs.Prelude.{◌≡◌, ℕ, List}
use Rattle.atomic_table.specs.Seated.{TableId}
use Rattle.md_words.specs.declared.shape.Shape.{Shape}
use Rattle.md_machine.specs.declared.pass.PassView.{PassView}
use Rattle.md_rule_lanes.specs.declared.shares.Share.{Share}

-- the shape of a field, and its words when it was opened
pub record Origin : Type 0 where
  pub shape : Shape
  pub words : List ℕ

-- a field: its table, and how it was opened
pub record FieldView : Type 0 where
  pub table : TableId
  pub origin : Origin

-- a pass: the table and the shape of its field, what it knows, and a share for each lane that there may be
pub record PassState : Type 0 where
  pub table : TableId
  pub shape : Shape
  pub view : PassView
  pub shares : List Share

-- the pass is of the field
pub record IsOf (pass : PassState) (field : FieldView) : Type 0 where
  pub table : pass.table ≡ field.table
  pub shape : pass.shape ≡ field.origin.shape

-- a field that has ended: its words as they stand, and its last pass as it stood
pub record EndedView : Type 0 where
  pub words : List ℕ
  pub front : PassState
