-- How a transaction ended that was made ready and decided at once, by what its decision answered.
use Rattle.std.proofs.Common.{Err, Ok, Result, inl}
use Rattle.std.specs.Prelude.{IfErr, IfOk}
use Rattle.md_history.specs.declared.stops.Shown.{Shown}
use Rattle.md_machine.specs.Meaning.{Meaning}
use Rattle.md_rule.specs.Views.{PassState}
use Rattle.md_nbtc_law.specs.Ended.{WasCommitted, WasLost}
use Rattle.md_nbtc_law.specs.Ending.{Aborts, CommitsTransaction, HasEntry, IsShown, Readies, TellsWhy}
use Rattle.md_nbtc_law.specs.State.{TxnState}

module _ (M : Meaning) (t w : TxnState) (e : HasEntry w) (readies : Readies t w e) (q : PassState) where
  pub committed_if : (result : Result (Unit {0}) Shown) → IfOk result (λ _. (d : HasEntry w) × CommitsTransaction M w d q) → IfOk result (λ _. WasCommitted M t q)
  committed_if (Ok done) is = record { ready = w; entry = e; readies = readies; answered = is.0; commits = is.1 }
  committed_if (Err shown) is = tt

  pub lost_if : (result : Result (Unit {0}) Shown) → IfErr result (λ shown. Aborts M w q × IsShown w q shown × TellsWhy w q shown) → IfErr result (WasLost M t q)
  lost_if (Ok done) is = tt
  lost_if (Err shown) is = inl (record { ready = w; entry = e; readies = readies; aborts = is.0; is_shown = is.1; tells = is.2 })
