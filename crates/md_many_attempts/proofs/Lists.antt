-- Lists by caller, kept in vectors.
use Rattle.std.proofs.Common.{◌≡◌, ◌≤◌, ◌+◌, ◌++◌, ◌∷◌, [], ◌∙◌, ℕ, zero, suc, List, Vec, Global, length, take, get_or, refl, sym, ap, arith, inl, inr}
use Rattle.std.specs.Prelude.{◌-◌, None, slice_get, slice_index_or, sum_by}
use Rattle.std.proofs.lemmas.Bool.{cases_lt}
use Rattle.std.proofs.lemmas.List.{take_more, take_all, get_or_past}
use Rattle.std.proofs.lemmas.List.Sums.{sum_by_push, get_or-le-sum_by}
use Rattle.md_many_attempts.specs.ByCaller.{at_caller, lists_in, lines_of}

-- a caller's list, by its index
pub list-there : {R : Type 0} (lists : List (Vec R Global)) (caller : ℕ) (v : Vec R Global) → 1 ≤ caller
    → caller ≤ length lists → v ≡ slice_index_or lists (caller - 1) v → at_caller [] (lists_in lists) caller ≡ v.items
list-there [] caller v low high is = absurd (omega arith)
list-there (w ∷ lists) zero v low high is = absurd (omega arith)
list-there (w ∷ lists) (suc zero) v low high is = ap (λ x. x.items) (sym is)
list-there (w ∷ lists) (suc (suc i)) v low high is =
    let next : suc (suc i) - 1 ≡ suc (suc i - 1) = omega arith in
    list-there lists (suc i) v (omega arith) (omega arith) (is ∙ ap (λ k. slice_index_or (w ∷ lists) k v) next)

-- a list has nothing past its end
pub past-none : {R : Type 0} (xs : List R) (l : ℕ) → length xs ≤ l → slice_get xs l ≡ None
past-none [] l past = refl
past-none (x ∷ xs) zero past = absurd (omega arith)
past-none (x ∷ xs) (suc l) past = past-none xs l (omega arith)

-- the lines of lists are as many as their elements
pub count-lists : {A : Type 0} (lists : List (List A))
    → lines_of (λ caller. length (at_caller [] lists caller)) (length lists) ≡ sum_by length lists
count-lists lists = up-to (length lists) (omega arith) ∙ ap (sum_by length) (take_all (length lists) lists (omega arith))
  where
    up-to : (n : ℕ) → n ≤ length lists
        → lines_of (λ caller. length (at_caller [] lists caller)) n ≡ sum_by length (take n lists)
    up-to zero few = refl
    up-to (suc n) few =
        let next : suc n ≡ n + 1 = omega arith in
        let more : take (suc n) lists ≡ take n lists ++ get_or lists n [] ∷ [] =
        ap (λ k. take k lists) next ∙ take_more lists n [] (omega (arith, few)) in
        omega (
          arith,
          up-to n (omega (arith, few)),
          ap (sum_by length) more,
          sum_by_push length (take n lists) (get_or lists n []),
        )

-- a list has no more elements than there are lines
pub list-few : {A : Type 0} (lists : List (List A)) (caller : ℕ)
    → length (at_caller [] lists caller) ≤ sum_by length lists
list-few lists zero = omega arith
list-few lists (suc c) = elim (cases_lt c (length lists)) [
  | inl inside ↦ get_or-le-sum_by length lists c [] inside
  | inr past ↦ omega (arith, ap length (get_or_past lists c [] past))
]
