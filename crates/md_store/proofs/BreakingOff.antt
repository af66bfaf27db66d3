-- A body that broke off: what its transaction has then.
use Rattle.std.proofs.Common.{◌≡◌, ◌++◌, ◌∙◌, List, [], ◌∷◌, Option, Some, Result, Ok, Err, sym, subst}
use Rattle.std.specs.Prelude.{IfErr, IfOk}
use Rattle.md_history.specs.declared.acts.Act.{Act}
use Rattle.md_history.specs.declared.stops.Stop.{Stop}
use Rattle.md_history.specs.Act.{act_of}
use Rattle.md_history.specs.Calls.{BrokeOff, Refusal}
use Rattle.md_nbtc_law.specs.State.{TxnState}
use Rattle.md_rule.specs.Views.{PassState}
use Rattle.md_store_bodies.specs.Running.{BreaksOff, IsRunning}

-- a body that broke off left a transaction that has its refusal
pub breaks_off : (makes : List Act → Type 0) (before b : PassState) (t : TxnState) (r q : Option Refusal) (acts : List Act) → IsRunning b t r → b ≡ before → r ≡ q
    → t.hand.acts ≡ acts → (why : Stop) → BrokeOff makes why [] acts q → BreaksOff makes before t why
breaks_off makes before b t r q acts run same stands are why off = record {
  broke = record {
    refusal = off.refusal;
    same = off.same;
    running = subst (λ (x : PassState). IsRunning x t (Some off.refusal)) same (subst (IsRunning b t) (stands ∙ off.stopped) run);
  };
  made = λ reply may. subst (λ (xs : List Act). makes (xs ++ act_of off.refusal.op reply ∷ [])) (sym (are ∙ off.adds)) (off.made reply may);
}

-- what holds of an error, so does what follows from it
pub err_more : {A E : Type 0} (result : Result A E) (P Q : E → Type 0) → ((e : E) → P e → Q e) → IfErr result P → IfErr result Q
err_more (Ok a) P Q more is = tt
err_more (Err e) P Q more is = more e is

-- and so it is of a value
pub ok_more : {A E : Type 0} (result : Result A E) (P Q : A → Type 0) → ((a : A) → P a → Q a) → IfOk result P → IfOk result Q
ok_more (Ok a) P Q more is = more a is
ok_more (Err e) P Q more is = tt
