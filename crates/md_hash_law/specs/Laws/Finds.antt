-- A look-up in the pairs of all buckets finds what the bucket of the key has.
use Rattle.std.proofs.Common.{◌≡◌, ℕ, zero, suc, ◌+◌, ◌≢◌, ◌<◌, ◌≤◌, ◌++◌, cond, List, [], ◌∷◌, Some, None, refl, sym, ap, ◌∙◌, ⊎_elim, arith}
use Rattle.std.specs.List.{flat_map, range_with_len}
use Rattle.std.specs.Ordering.{nat_cmp, eq_by_cmp}
use Rattle.std.specs.FinMap as fin
use Rattle.std.proofs.lemmas.Bool.{cases_eq}
use Rattle.md_list_law.proofs.Keys.{find-here, find-further}

-- pairs that lack the key are passed over, and others are looked at alone
pub find-append_none : (q : ℕ) (xs ys : List (ℕ × ℕ)) → fin.find nat_cmp q xs ≡ None → fin.find nat_cmp q (xs ++ ys) ≡ fin.find nat_cmp q ys
find-append_none q [] ys none = refl
find-append_none q (x ∷ xs) ys none = ⊎_elim
    (λ e. absurd (some_none x.1 (sym (find-here q x.0 x.1 xs e) ∙ none)))
    (λ ne. find-further q x.0 x.1 (xs ++ ys) ne ∙ find-append_none q xs ys (sym (find-further q x.0 x.1 xs ne) ∙ none))
    (cases_eq q x.0)
  where
    some_none : (v : ℕ) → Some v ≡ None → ⊥
    some_none v e = cc e

-- pairs after which none has the key
pub find-append_last : (q : ℕ) (xs ys : List (ℕ × ℕ)) → fin.find nat_cmp q ys ≡ None → fin.find nat_cmp q (xs ++ ys) ≡ fin.find nat_cmp q xs
find-append_last q [] ys none = none
find-append_last q (x ∷ xs) ys none = ap (cond (eq_by_cmp nat_cmp q x.0) (Some x.1)) (find-append_last q xs ys none)

module _ (f : ℕ → List (ℕ × ℕ)) (q home : ℕ) where
  -- buckets that lack the key
  find-elsewhere : (a n : ℕ) → ((b : ℕ) → a ≤ b → b < a + n → fin.find nat_cmp q (f b) ≡ None) → fin.find nat_cmp q (flat_map f (range_with_len a n)) ≡ None
  find-elsewhere a zero none = refl
  find-elsewhere a (suc n) none = find-append_none q (f a) (flat_map f (range_with_len (a + 1) n)) (none a (omega arith) (omega arith))
      ∙ find-elsewhere (a + 1) n (λ b low high. none b (omega (arith, low)) (omega (arith, high)))

  -- if all but one lack it, the look-up finds what that one has
  pub find-home : (a n : ℕ) → a ≤ home → home < a + n → ((b : ℕ) → a ≤ b → b < a + n → b ≢ home → fin.find nat_cmp q (f b) ≡ None)
      → fin.find nat_cmp q (flat_map f (range_with_len a n)) ≡ fin.find nat_cmp q (f home)
  find-home a zero low high none = absurd (omega (arith, low, high))
  find-home a (suc n) low high none = ⊎_elim
      (λ e. find-append_last q (f a) (flat_map f (range_with_len (a + 1) n))
      (find-elsewhere (a + 1) n (λ b above below. none b (omega (arith, above)) (omega (arith, below)) (λ is. omega (arith, above, is, e))))
      ∙ ap (λ b. fin.find nat_cmp q (f b)) e)
      (λ ne. find-append_none q (f a) (flat_map f (range_with_len (a + 1) n)) (none a (omega arith) (omega arith) ne)
      ∙ find-home (a + 1) n (omega (arith, low, ne)) (omega (arith, high)) (λ b above below. none b (omega (arith, above)) (omega (arith, below))))
      (cases_eq a home)
