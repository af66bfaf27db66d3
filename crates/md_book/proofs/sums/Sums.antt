-- Sums over lists.
use Rattle.std.proofs.Common.{◌≡◌, ◌≤◌, ◌<◌, ℕ, ◌+◌, ◌==◌, suc, zero, Bool, true, false, cond, List, [], ◌∷◌, refl, sym, ap, ◌∙◌, inl, inr, arith}
use Rattle.std.specs.Prelude.{filter, sum_by}
use Rattle.std.specs.List.{AllByRecursion, range_with_len}
use Rattle.std.proofs.lemmas.Bool.{cases_eq, eq-eqb, ne_eqb}
use Rattle.std.proofs.lemmas.List.Sums.{sum_by-cons}

module _ {X : Type 0} where
  pub sum_by-plus : (f g : X → ℕ) (xs : List X) → sum_by (λ x. f x + g x) xs ≡ sum_by f xs + sum_by g xs
  sum_by-plus f g [] = refl
  sum_by-plus f g (x ∷ xs) = omega (arith, sum_by-plus f g xs, sum_by-cons (λ y. f y + g y) x xs, sum_by-cons f x xs, sum_by-cons g x xs)

  pub sum_by-agree : (f g : X → ℕ) (xs : List X) → AllByRecursion (λ x. f x ≡ g x) xs → sum_by f xs ≡ sum_by g xs
  sum_by-agree f g [] same = refl
  sum_by-agree f g (x ∷ xs) same = omega (arith, same.0, sum_by-agree f g xs same.1, sum_by-cons f x xs, sum_by-cons g x xs)

  pub sum_by-equal : (f g : X → ℕ) → ((x : X) → f x ≡ g x) → (xs : List X) → sum_by f xs ≡ sum_by g xs
  sum_by-equal f g same [] = refl
  sum_by-equal f g same (x ∷ xs) = omega (arith, same x, sum_by-equal f g same xs, sum_by-cons f x xs, sum_by-cons g x xs)

  pub sum_by-nothing : (xs : List X) → sum_by (λ _. 0) xs ≡ 0
  sum_by-nothing [] = refl
  sum_by-nothing (x ∷ xs) = omega (arith, sum_by-nothing xs, sum_by-cons (λ _. 0) x xs)

  -- a sum over what a filter keeps
  pub sum_by-filter : (f : X → ℕ) (p : X → Bool) (xs : List X) → sum_by f (filter p xs) ≡ sum_by (λ x. cond (p x) (f x) 0) xs
  sum_by-filter f p [] = refl
  sum_by-filter f p (x ∷ xs) =
      let more = sum_by-filter f p xs in
      let all = sum_by-cons (λ y. cond (p y) (f y) 0) x xs in
      elim (p x) as (λ b. sum_by f (cond b (x ∷ filter p xs) (filter p xs)) ≡ cond b (f x) 0 + sum_by (λ y. cond (p y) (f y) 0) xs) [
        | true ↦ omega (arith, more, sum_by-cons f x (filter p xs))
        | false ↦ omega (arith, more)
      ] ∙ sym all

-- nothing is picked from a range above
pick-none : (a v low n : ℕ) → a < low → sum_by (λ k. cond (a == k) v 0) (range_with_len low n) ≡ 0
pick-none a v low zero below = refl
pick-none a v low (suc n) below =
    omega (arith, pick-none a v (low + 1) n (omega arith), sum_by-cons (λ k. cond (a == k) v 0) low (range_with_len (low + 1) n), ap (λ b. cond b v 0) (ne_eqb a low (λ e. omega arith)))

-- a number picks one term of its range
pick : (a v low n : ℕ) → low ≤ a → a < low + n → sum_by (λ k. cond (a == k) v 0) (range_with_len low n) ≡ v
pick a v low zero from below = absurd (omega arith)
pick a v low (suc n) from below =
    let all = sum_by-cons (λ k. cond (a == k) v 0) low (range_with_len (low + 1) n) in
    elim (cases_eq a low) [
      | inl same ↦ omega (arith, all, pick-none a v (low + 1) n (omega arith), ap (λ b. cond b v 0) (eq-eqb a low same))
      | inr apart ↦ let above : low + 1 ≤ a = omega (arith, apart) in omega (arith, all, pick a v (low + 1) n above (omega arith), ap (λ b. cond b v 0) (ne_eqb a low apart))
    ]

-- what is summed for each key of a range is summed in all, where each key is in the range
module _ {X : Type 0} (key f : X → ℕ) (low n : ℕ) where
  pub sum_by-keys : (xs : List X) → AllByRecursion (λ x. (low ≤ key x) × (key x < low + n)) xs → sum_by (λ k. sum_by (λ x. cond (key x == k) (f x) 0) xs) (range_with_len low n) ≡ sum_by f xs
  sum_by-keys [] within = sum_by-nothing (range_with_len low n)
  sum_by-keys (x ∷ xs) within =
      sum_by-equal (λ k. sum_by (λ y. cond (key y == k) (f y) 0) (x ∷ xs)) (λ k. cond (key x == k) (f x) 0 + sum_by (λ y. cond (key y == k) (f y) 0) xs) (λ k. sum_by-cons (λ y. cond (key y == k) (f y) 0) x xs) (range_with_len low n)
      ∙ omega (arith, sum_by-plus (λ k. cond (key x == k) (f x) 0) (λ k. sum_by (λ y. cond (key y == k) (f y) 0) xs) (range_with_len low n), pick (key x) (f x) low n within.0.0 within.0.1, sum_by-keys xs within.1, sum_by-cons f x xs)
