-- How a kill goes on along its lookups.
use Rattle.std.proofs.Common.{◌≡◌, ◌≢◌, ◌<◌, ◌+◌, ◌-◌, ◌==◌, ℕ, suc, Bool, true, cond, List, [], ◌∷◌, length, drop, get_or, refl, sym, ap, ◌∙◌, Option, Some, None, add-one, drop-cons}
use Rattle.std.specs.Option.{unwrap_or}
use Rattle.std.proofs.lemmas.Bool.{eq-eqb, ne_eqb}
use Rattle.md_history.specs.declared.acts.Op.TheVariants.{Get}
use Rattle.md_history.specs.declared.acts.Reply.TheVariants.{Value}
use Rattle.md_history.specs.Script.{Script, done, call}
use Rattle.md_book.specs.declared.maps.TheConstants.{OPEN_ORDERS}
use Rattle.md_book.specs.Stands.{left_in}
use Rattle.md_book.specs.Scripts.{value_or_0}
use Rattle.md_book.specs.Killing.{have_left}

-- the number that a lookup found, or 0
pub value_or_0-unwrap : (o : Option ℕ) → value_or_0 (Value o) ≡ unwrap_or o 0
value_or_0-unwrap None = refl
value_or_0-unwrap (Some v) = refl

module _ (lacking : ℕ) where
  -- a name is looked up, and then the rest of them
  abbrev pub looks_up : ℕ → List ℕ → Script Bool
  looks_up name names = call (Get OPEN_ORDERS name) (λ r. have_left (lacking - left_in (value_or_0 r)) names)

  -- nothing is lacking
  pub have_left-none : (names : List ℕ) → lacking ≡ 0 → have_left lacking names ≡ done (lacking == 0)
  unfolding have_left
  have_left-none [] none = refl
  have_left-none (name ∷ names) none =
      let yes = eq-eqb lacking 0 none in
      ap (λ b. cond b (done true) (looks_up name names)) yes ∙ ap done (sym yes)

  -- no name is left
  pub have_left-last : (names : List ℕ) → names ≡ [] → have_left lacking names ≡ done (lacking == 0)
  unfolding have_left
  have_left-last names last = ap (have_left lacking) last

  have_left-cons : (name : ℕ) (names : List ℕ) → lacking ≢ 0 → have_left lacking (name ∷ names) ≡ looks_up name names
  unfolding have_left
  have_left-cons name names some = ap (λ b. cond b (done true) (looks_up name names)) (ne_eqb lacking 0 some)

  -- something is lacking, and there is a name to look up
  pub have_left-more : (names : List ℕ) (i : ℕ) → i < length names → lacking ≢ 0 → have_left lacking (drop i names) ≡ looks_up (get_or names i 0) (drop (i + 1) names)
  have_left-more names i below some = rw (add-one, drop-cons names i 0) (have_left-cons (get_or names i 0) (drop (suc i) names) some)
