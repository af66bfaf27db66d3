-- Lists made of a function of the place, and such a list with another element.
use Rattle.std.proofs.Common.{◌≡◌, ℕ, zero, suc, ◌+◌, ◌≢◌, ◌<◌, ◌≤◌, ◌∷◌, map, set, refl, sym, ap, ap₂, ◌∙◌, arith}
use Rattle.std.specs.List.{range_with_len}

module _ {A : Type 0} (f g : ℕ → A) where
  -- functions that agree at the places make the same list
  pub map-same : (a n : ℕ) → ((j : ℕ) → a ≤ j → j < a + n → f j ≡ g j) → map f (range_with_len a n) ≡ map g (range_with_len a n)
  map-same a zero same = refl
  map-same a (suc n) same = ap₂ (λ x xs. x ∷ xs) (same a (omega arith) (omega arith))
      (map-same (a + 1) n (λ j low high. same j (omega (arith, low)) (omega (arith, high))))

  -- if they agree at all but one, one list is the other with one element set
  pub map-set_one : (a n i : ℕ) → i < n → ((j : ℕ) → a ≤ j → j < a + n → j ≢ a + i → f j ≡ g j)
      → map f (range_with_len a n) ≡ set (map g (range_with_len a n)) i (f (a + i))
  map-set_one a zero i below same = absurd (omega (arith, below))
  map-set_one a (suc n) zero below same = ap₂ (λ x xs. x ∷ xs) (ap f (omega arith))
      (map-same (a + 1) n (λ j low high. same j (omega (arith, low)) (omega (arith, high)) (λ e. omega (arith, low, e))))
  map-set_one a (suc n) (suc i) below same =
      let e : a + 1 + i ≡ a + suc i = omega arith in
      ap₂ (λ x xs. x ∷ xs) (same a (omega arith) (omega arith) (λ e. omega (arith, e)))
      (map-set_one (a + 1) n i (omega (arith, below)) (λ j low high ne. same j (omega (arith, low)) (omega (arith, high)) (λ is. ne (is ∙ sym e)))
      ∙ ap (λ k. set (map g (range_with_len (a + 1) n)) i (f k)) e)
