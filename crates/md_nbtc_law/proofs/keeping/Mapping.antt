-- A list whose elements are changed one after another.
use Rattle.std.proofs.Common.{◌≡◌, ◌++◌, ◌∷◌, ◌<◌, ◌+◌, ℕ, zero, suc, List, [], length, map, take, drop, get_or, set, refl, ap, ◌∙◌, arith}

module _ {A : Type 0} (f : A → A) (d : A) where
  -- the list in which so many are changed
  abbrev pub changed_to : ℕ → List A → List A
  changed_to i xs = map f (take i xs) ++ drop i xs

  set_one : (i : ℕ) (xs : List A) → i < length xs → set (changed_to i xs) i (f (get_or (changed_to i xs) i d)) ≡ changed_to (suc i) xs
  set_one i [] below = absurd (omega (arith, below))
  set_one zero (x ∷ xs) below = refl
  set_one (suc i) (x ∷ xs) below = ap (λ l. f x ∷ l) (set_one i xs (omega (arith, below)))

  same_one : (i : ℕ) (xs : List A) → i < length xs → f (get_or (changed_to i xs) i d) ≡ get_or (changed_to i xs) i d → changed_to i xs ≡ changed_to (suc i) xs
  same_one i [] below same = absurd (omega (arith, below))
  same_one zero (x ∷ xs) below same = ap (λ y. y ∷ xs) (sym_of same)
    where
      sym_of : {x y : A} → x ≡ y → y ≡ x
      sym_of e = rw e refl
  same_one (suc i) (x ∷ xs) below same = ap (λ l. f x ∷ l) (same_one i xs (omega (arith, below)) same)

  -- one more is changed, or is as it would be
  pub set_next : (i : ℕ) (xs : List A) → i < length xs → set (changed_to i xs) i (f (get_or (changed_to i xs) i d)) ≡ changed_to (i + 1) xs
  set_next i xs below = let e : suc i ≡ i + 1 = omega arith in set_one i xs below ∙ ap (λ n. changed_to n xs) e

  pub same_next : (i : ℕ) (xs : List A) → i < length xs → f (get_or (changed_to i xs) i d) ≡ get_or (changed_to i xs) i d → changed_to i xs ≡ changed_to (i + 1) xs
  same_next i xs below same = let e : suc i ≡ i + 1 = omega arith in same_one i xs below same ∙ ap (λ n. changed_to n xs) e
