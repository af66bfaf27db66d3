-- Lists read by `get_elem?`, and words after a change of one.
use Rattle.std.proofs.Common.{◌≡◌, ℕ, zero, suc, ◌+◌, ◌≢◌, ◌⊎◌, ◌<◌, Bool, true, false, List, [], ◌∷◌, ◌++◌, length, get_or, set, eqb, refl, ap, sym, subst, inl, inr, ⊎_elim, eq-eqb, ne_eqb, get_or-set_same, get_or-set_other, arith}
use Rattle.std.proofs.lemmas.Bool.{cases_eq}
use mathlib.Core.Option.{some, some-injective, some-ne-none}
use lib.ListN.{get_elem?}

module _ {A : Type 0} where
  -- an element of a list in which one was set is that one, or was there
  pub at_set : (l : List A) (i j : ℕ) (a b : A) → get_elem? (set l i a) j ≡ some b → ((j ≡ i) × (a ≡ b)) ⊎ ((j ≢ i) × (get_elem? l j ≡ some b))
  at_set [] i j a b e = absurd (some-ne-none b (sym e))
  at_set (x ∷ xs) zero zero a b e = inl (refl, some-injective a b e)
  at_set (x ∷ xs) zero (suc j) a b e = inr ((λ h. omega arith), e)
  at_set (x ∷ xs) (suc i) zero a b e = inr ((λ h. omega arith), e)
  at_set (x ∷ xs) (suc i) (suc j) a b e = ⊎_elim (λ t. inl (ap suc t.0, t.1)) (λ t. let n = t.0 in inr ((λ h. n (omega arith)), t.1)) (at_set xs i j a b e)

  pub set_else : (l : List A) (i j : ℕ) (a : A) → j ≢ i → get_elem? (set l i a) j ≡ get_elem? l j
  set_else [] i j a n = refl
  set_else (x ∷ xs) zero zero a n = absurd (n refl)
  set_else (x ∷ xs) zero (suc j) a n = refl
  set_else (x ∷ xs) (suc i) zero a n = refl
  set_else (x ∷ xs) (suc i) (suc j) a n = set_else xs i j a (λ e. n (ap suc e))

  -- where an element stood, the one that was set stands
  pub set_there : (l : List A) (i : ℕ) (a b : A) → get_elem? l i ≡ some b → get_elem? (set l i a) i ≡ some a
  set_there [] i a b e = absurd (some-ne-none b (sym e))
  set_there (x ∷ xs) zero a b e = refl
  set_there (x ∷ xs) (suc i) a b e = set_there xs i a b e

  pub at_append : (l m : List A) (j : ℕ) (b : A) → get_elem? (l ++ m) j ≡ some b → (get_elem? l j ≡ some b) ⊎ ((k : ℕ) × (j ≡ length l + k) × (get_elem? m k ≡ some b))
  at_append [] m j b e = inr (j, omega arith, e)
  at_append (x ∷ xs) m zero b e = inl e
  at_append (x ∷ xs) m (suc j) b e = ⊎_elim inl (λ t. inr (t.0, omega (arith, t.1), t.2)) (at_append xs m j b e)

  pub at_one : (a b : A) (j : ℕ) → get_elem? (a ∷ []) j ≡ some b → (j ≡ 0) × (a ≡ b)
  at_one a b zero e = (refl, some-injective a b e)
  at_one a b (suc j) e = absurd (some-ne-none b (sym e))

  -- an element is within the list, also after one was set
  pub at_below : (l : List A) (j : ℕ) (b : A) → get_elem? l j ≡ some b → j < length l
  at_below [] j b e = absurd (some-ne-none b (sym e))
  at_below (x ∷ xs) zero b e = omega arith
  at_below (x ∷ xs) (suc j) b e = let h = at_below xs j b e in omega arith

  pub append_there : (l m : List A) (j : ℕ) (b : A) → get_elem? l j ≡ some b → get_elem? (l ++ m) j ≡ some b
  append_there [] m j b e = absurd (some-ne-none b (sym e))
  append_there (x ∷ xs) m zero b e = e
  append_there (x ∷ xs) m (suc j) b e = append_there xs m j b e

  pub append_end : (l : List A) (b : A) → get_elem? (l ++ b ∷ []) (length l) ≡ some b
  append_end [] b = refl
  append_end (x ∷ xs) b = append_end xs b

-- the two cases of an exchange
pub exchanged_cases : (n old : ℕ) (F : Bool → Type 0) → (n ≡ old → F true) → (n ≢ old → F false) → F (eqb n old)
exchanged_cases n old F hit miss = ⊎_elim (λ e. subst F (sym (eq-eqb n old e)) (hit e)) (λ ne. subst F (sym (ne_eqb n old ne)) (miss ne)) (cases_eq n old)

-- what holds of a word after a change of one
pub at_changed : (words : List ℕ) (i x j : ℕ) (P : ℕ → Type 0) → (j ≡ i → P x) → (j ≢ i → P (get_or words j 0)) → i < length words → P (get_or (set words i x) j 0)
at_changed words i x j P same other inside = ⊎_elim
    (λ e. subst (λ k. P (get_or (set words i x) k 0)) (sym e) (subst P (sym (get_or-set_same words i x 0 inside)) (same e)))
    (λ ne. subst P (sym (get_or-set_other words i j x 0 ne)) (other ne))
    (cases_eq j i)
