-- How a script goes on where it branches.
use Rattle.std.proofs.Common.{◌≡◌, ℕ, Bool, true, false, List, Option, Some, None, ap}
use Rattle.md_history.specs.declared.acts.Act.{Act}
use Rattle.md_history.specs.declared.acts.Reply.TheVariants.{Flag}
use Rattle.md_history.specs.Script.{Script}
use Rattle.md_history.specs.ScriptLaws.{At, at-rest}
use Rattle.md_history.specs.Branches.{by_option, by_flag}

module _ {R : Type 0} {s : Script R} {from acts : List Act} where
  module _ (o : Option ℕ) (none : Script R) (some : ℕ → Script R) where
    -- there is a value
    pub at-some : (v : ℕ) → At s from acts (by_option o none some) → o ≡ Some v
        → At s from acts (some v)
    at-some v at e = at-rest at (ap (λ x. by_option x none some) e)

    -- there is none
    pub at-none : At s from acts (by_option o none some) → o ≡ None → At s from acts none
    at-none at e = at-rest at (ap (λ x. by_option x none some) e)

  module _ (b : Bool) (added other : Script R) where
    -- a key was added
    pub at-added : At s from acts (by_flag (Flag b) added other) → b ≡ true → At s from acts added
    at-added at e = at-rest at (ap (λ x. by_flag (Flag x) added other) e)

    -- it was there
    pub at-there : At s from acts (by_flag (Flag b) added other) → b ≡ false → At s from acts other
    at-there at e = at-rest at (ap (λ x. by_flag (Flag x) added other) e)

-- what holds of both branches holds of either
pub by_option-each : {R : Type 0} (P : Script R → Type 0) (o : Option ℕ) (none : Script R)
    (some : ℕ → Script R) → P none → ((v : ℕ) → P (some v)) → P (by_option o none some)
by_option-each P None none some n s = n
by_option-each P (Some v) none some n s = s v
