-- What the tests keep of a transaction over the cell.
use Rattle.std.specs.Prelude.{◌≡◌, true, None, All}
use Rattle.example_cell.specs.CellMeaning.{cell_meaning}
use Rattle.md_rule.specs.Views.{FieldView}
use Rattle.md_nbtc_law.specs.declared.slots.Slot.{Slot}
use Rattle.md_nbtc_law.specs.Going.{IsUnderWay}
use Rattle.md_nbtc_law.specs.State.{TxnState}

-- it is under way in an operation on the field, and keeps no cleanup
pub record IsOpen (f : FieldView) (t : TxnState) : Type 0 where
  pub going : IsUnderWay cell_meaning t
  pub operating : t.hand.operating ≡ true
  pub plain : All (λ (s : Slot). s.cleanup ≡ None) t.slots
  pub field : t.field ≡ f
