-- How a sweep goes on along its script.
use Rattle.std.proofs.Common.{◌≡◌, ◌≢◌, ℕ, suc, zero, cond, refl, ap, Option, Some, None}
use Rattle.std.proofs.lemmas.Bool.{eq-eqb, ne_eqb}
use Rattle.md_history.specs.Script.{Script, done, bind}
use Rattle.md_book.specs.declared.commands.Side.{Side}
use Rattle.md_match.specs.declared.sweeping.Sweep.{Sweep}
use Rattle.md_match.specs.Matching.{opposite}
use Rattle.md_match.specs.Sweeping.{find_best, with_taken, take_at, go_on, sweep_levels}

module _ (side : Side) (limit : ℕ) where
  -- what a sweep does at a price, where so many places are left to look at
  abbrev pub at_best : ℕ → Sweep → ℕ → Script Sweep
  at_best zero f price = done f
  at_best (suc looks) f price = bind (take_at (opposite side) price f.rest) (λ part. sweep_levels side limit looks (with_taken f part))

  -- something remains: the best price is looked for
  pub sweep-some : (looks : ℕ) (f : Sweep) → f.rest ≢ 0 → sweep_levels side limit looks f ≡ bind (find_best side limit) (λ best. go_on best f (at_best looks f))
  unfolding sweep_levels
  sweep-some zero f some = ap (λ b. cond b (done f) (bind (find_best side limit) (λ best. go_on best f (λ _. done f)))) (ne_eqb f.rest 0 some)
  sweep-some (suc looks) f some =
      ap (λ b. cond b (done f) (bind (find_best side limit) (λ best. go_on best f (λ price. bind (take_at (opposite side) price f.rest) (λ part. sweep_levels side limit looks (with_taken f part)))))) (ne_eqb f.rest 0 some)

  -- nothing remains
  pub sweep-none : (looks : ℕ) (f : Sweep) → f.rest ≡ 0 → sweep_levels side limit looks f ≡ done f
  unfolding sweep_levels
  sweep-none zero f none = ap (λ b. cond b (done f) (bind (find_best side limit) (λ best. go_on best f (λ _. done f)))) (eq-eqb f.rest 0 none)
  sweep-none (suc looks) f none =
      ap (λ b. cond b (done f) (bind (find_best side limit) (λ best. go_on best f (λ price. bind (take_at (opposite side) price f.rest) (λ part. sweep_levels side limit looks (with_taken f part)))))) (eq-eqb f.rest 0 none)

-- there is no price
pub no-price : (best : Option ℕ) (f : Sweep) (more : ℕ → Script Sweep) → ((price : ℕ) → best ≡ Some price → ⊥) → go_on best f more ≡ go_on None f more
no-price None f more none = refl
no-price (Some price) f more none = absurd (none price refl)

-- nothing was taken
pub no-part : {A : Type 0} (taken : Option A) → ((part : A) → taken ≡ Some part → ⊥) → taken ≡ None
no-part None none = refl
no-part (Some part) none = absurd (none part refl)
