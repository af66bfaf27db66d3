-- How a transaction ended that was made ready and decided at once.
use Rattle.std.specs.Prelude.{◌⊎◌}
use Rattle.md_history.specs.declared.stops.Shown.{Shown}
use Rattle.md_machine.specs.Meaning.{Meaning}
use Rattle.md_rule.specs.Views.{PassState}
use Rattle.md_nbtc_law.specs.Ending.{Aborts, CommitsTransaction, HasEntry, IsShown, Readies, Stopped, TellsWhy}
use Rattle.md_nbtc_law.specs.State.{TxnState}

module _ (M : Meaning) where
  -- it became ready, and was committed
  pub record WasCommitted (t : TxnState) (q : PassState) : Type 0 where
    pub ready : TxnState
    pub entry : HasEntry ready
    pub readies : Readies t ready entry
    pub answered : HasEntry ready
    pub commits : CommitsTransaction M ready answered q

  -- it became ready and was aborted, and this is shown: a read that moved, or that another aborted it
  pub record WasAborted (t : TxnState) (q : PassState) (shown : Shown) : Type 0 where
    pub ready : TxnState
    pub entry : HasEntry ready
    pub readies : Readies t ready entry
    pub aborts : Aborts M ready q
    pub is_shown : IsShown ready q shown
    pub tells : TellsWhy ready q shown

  -- another had aborted it before
  pub record WasUnready (t : TxnState) (q : PassState) (shown : Shown) : Type 0 where
    pub stopped : Stopped M t q
    pub is_shown : IsShown t q shown

  abbrev pub WasLost : TxnState → PassState → Shown → Type 0
  WasLost t q shown = WasAborted t q shown ⊎ WasUnready t q shown
