-- How a transaction stands that became ready and was left.
use Rattle.std.specs.Prelude.{◌≡◌}
use Rattle.md_machine.specs.Meaning.{Meaning}
use Rattle.md_rule.specs.Views.{PassState}
use Rattle.md_nbtc_law.specs.Ending.{IsReady, Readies}
use Rattle.md_nbtc_law.specs.State.{TxnState}

-- it became ready, and its pass is as it was then
pub record WasLeftReady (M : Meaning) (t : TxnState) (q : PassState) : Type 0 where
  pub ready : TxnState
  pub is : IsReady M ready
  pub readies : Readies t ready is.entry
  pub left : q ≡ ready.pass
