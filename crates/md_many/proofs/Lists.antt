-- Lists by caller, kept in vectors.
use Rattle.std.proofs.Common.{◌≡◌, ◌≢◌, ◌≤◌, ◌∷◌, [], ◌∙◌, ℕ, zero, suc, List, Vec, Global, Result, Ok, Err, true, length, refl, ap, arith}
use Rattle.std.specs.Prelude.{◌-◌, slice_set, is_ok, OnOk}
use Rattle.md_many_attempts.specs.ByCaller.{at_caller, lists_in}

-- the lists with another one for a caller
pub set-same : {R : Type 0} (lists : List (Vec R Global)) (caller : ℕ) (v : Vec R Global) → 1 ≤ caller
    → caller ≤ length lists → at_caller [] (lists_in (slice_set lists (caller - 1) v)) caller ≡ v.items
set-same [] caller v low high = absurd (omega arith)
set-same (w ∷ lists) zero v low high = absurd (omega arith)
set-same (w ∷ lists) (suc zero) v low high = refl
set-same (w ∷ lists) (suc (suc i)) v low high =
    let next : suc (suc i) - 1 ≡ suc (suc i - 1) = omega arith in
    ap (λ k. at_caller [] (lists_in (slice_set (w ∷ lists) k v)) (suc (suc i))) next
    ∙ set-same lists (suc i) v (omega arith) (omega arith)

pub set-other : {R : Type 0} (lists : List (Vec R Global)) (caller other : ℕ) (v : Vec R Global) → 1 ≤ caller
    → other ≢ caller
    → at_caller [] (lists_in (slice_set lists (caller - 1) v)) other ≡ at_caller [] (lists_in lists) other
set-other lists caller zero v low apart = refl
set-other [] caller (suc j) v low apart = refl
set-other (w ∷ lists) zero (suc j) v low apart = absurd (omega arith)
set-other (w ∷ lists) (suc zero) (suc zero) v low apart = absurd (apart refl)
set-other (w ∷ lists) (suc zero) (suc (suc j)) v low apart = refl
set-other (w ∷ lists) (suc (suc i)) (suc zero) v low apart =
    let next : suc (suc i) - 1 ≡ suc (suc i - 1) = omega arith in
    ap (λ k. at_caller [] (lists_in (slice_set (w ∷ lists) k v)) 1) next
set-other (w ∷ lists) (suc (suc i)) (suc (suc j)) v low apart =
    let next : suc (suc i) - 1 ≡ suc (suc i - 1) = omega arith in
    ap (λ k. at_caller [] (lists_in (slice_set (w ∷ lists) k v)) (suc (suc j))) next
    ∙ set-other lists (suc i) (suc j) v (omega arith) (λ same. apart (ap suc same))

-- what is so where a result is Ok
pub on-ok : {A E : Type 0} (r : Result A E) (P : Type 0) → (is_ok r ≡ true → P) → OnOk r P
on-ok (Ok x) P then = then refl
on-ok (Err e) P then = tt
