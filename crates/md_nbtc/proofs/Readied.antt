-- What `made_ready` comes to, for a transaction's state with its stop, which is none.
use Rattle.std.proofs.Common.{◌≡◌, ℕ, Err, None, Ok, Option, Result, refl, subst, sym}
use Rattle.std.specs.Prelude.{IfErr, IfOk}
use Rattle.md_history.specs.declared.stops.Shown.{Shown}
use Rattle.md_history.specs.declared.stops.Stop.{Stop}
use Rattle.md_machine.specs.declared.attempt.AttemptId.{AttemptId}
use Rattle.md_machine.specs.Meaning.{Meaning}
use Rattle.md_rule.specs.Views.{FieldView, PassState}
use Rattle.md_nbtc_law.specs.Ended.{WasUnready}
use Rattle.md_nbtc_law.specs.Ending.{IsReady, IsShown, Readies, Stopped, shown_unready}
use Rattle.md_nbtc_law.specs.Going.{IsUnderWay}
use Rattle.md_nbtc_law.specs.LeftReady.{WasLeftReady}
use Rattle.md_nbtc_law.specs.State.{TxnState, state_of}
use Rattle.md_nbtc_sets.specs.declared.sets.Sets.{Sets}
use Rattle.md_nbtc_sets.specs.Deciding.{state_by}

module _ (M : Meaning) (field : FieldView) (p began : PassState) (sets : Sets) (a : AttemptId) (tag : ℕ) (stop : Option Stop) (none : stop ≡ None) where
  abbrev by : Option Stop → TxnState
  by s = state_of field p began sets.reads sets.slots s a.desc a.serial tag sets.lots

  pub under_way : IsUnderWay M (by stop) → IsUnderWay M (by None)
  under_way = subst (λ s. IsUnderWay M (by s)) none

  module _ (q : PassState) where
    abbrev then : TxnState
    then = state_by field q began sets a tag

    pub readies : (is : IsReady M then) × Readies (by None) then is.entry → (is : IsReady M then) × Readies (by stop) then is.entry
    readies = subst (λ s. (is : IsReady M then) × Readies (by s) then is.entry) (sym none)

    pub refused : (shown : Shown) → Stopped M (by None) q × (shown ≡ shown_unready (by None)) × IsShown (by None) q shown
        → Stopped M (by stop) q × (shown ≡ shown_unready (by stop)) × IsShown (by stop) q shown
    refused shown = subst (λ s. Stopped M (by s) q × (shown ≡ shown_unready (by s)) × IsShown (by s) q shown) (sym none)

    pub left_if : (result : Result (Unit {0}) Shown) → IfOk result (λ _. (is : IsReady M then) × Readies (by None) then is.entry) → IfOk result (λ _. WasLeftReady M (by stop) q)
    left_if (Ok done) r = let s = readies r in record { ready = then; is = s.0; readies = s.1; left = refl }
    left_if (Err shown) r = tt

    pub unready_if : (result : Result (Unit {0}) Shown) → IfErr result (λ shown. Stopped M (by None) q × (shown ≡ shown_unready (by None)) × IsShown (by None) q shown)
        → IfErr result (WasUnready M (by stop) q)
    unready_if (Ok done) r = tt
    unready_if (Err shown) r = let s = refused shown r in record { stopped = s.0; is_shown = s.2 }
