-- Different numbers below a bound are no more than the bound.
use Rattle.std.proofs.Common.{◌≡◌, ◌≢◌, ℕ, zero, suc, ◌<◌, ◌≤◌, cond, eqb, sym, ◌∙◌, arith}
use Rattle.std.proofs.lemmas.Bool.{cond_both, eqb-true, eqb-false}

-- a function's values at different numbers below `count` differ
abbrev pub DifferBelow : (count : ℕ) → (ℕ → ℕ) → Type 0
DifferBelow count f = (i j : ℕ) → i < count → j < count → f i ≡ f j → i ≡ j

abbrev pub StayBelow : (count bound : ℕ) → (ℕ → ℕ) → Type 0
StayBelow count bound f = (i : ℕ) → i < count → f i < bound

-- the value at `top` takes the place of `bound`
swapped : (top bound : ℕ) → (ℕ → ℕ) → ℕ → ℕ
swapped top bound f i = cond (eqb (f i) bound) (f top) (f i)

swapped_below : (top bound : ℕ) (f : ℕ → ℕ) → StayBelow (suc top) (suc bound) f → DifferBelow (suc top) f → StayBelow top bound (swapped top bound f)
unfolding swapped
swapped_below top bound f below differ i h = cond_both (eqb (f i) bound) (f top) (f i) (λ n. n < bound)
    (λ same. let e = eqb-true (f i) bound same in
    let ne : f top ≢ bound = λ t. let d = differ i top (omega arith) (omega arith) (e ∙ sym t) in omega arith in
    let b = below top (omega arith) in omega arith)
    (λ other. let ne = eqb-false (f i) bound other in let b = below i (omega arith) in omega arith)

swapped_differ : (top bound : ℕ) (f : ℕ → ℕ) → DifferBelow (suc top) f → DifferBelow top (swapped top bound f)
unfolding swapped
swapped_differ top bound f differ i j hi hj = cond_both (eqb (f i) bound) (f top) (f i) (λ n. n ≡ cond (eqb (f j) bound) (f top) (f j) → i ≡ j)
    (λ si. cond_both (eqb (f j) bound) (f top) (f j) (λ n. f top ≡ n → i ≡ j)
    (λ sj e. differ i j (omega arith) (omega arith) (eqb-true (f i) bound si ∙ sym (eqb-true (f j) bound sj)))
    (λ oj e. let d = differ top j (omega arith) (omega arith) e in absurd (omega arith)))
    (λ oi. cond_both (eqb (f j) bound) (f top) (f j) (λ n. f i ≡ n → i ≡ j)
    (λ sj e. let d = differ i top (omega arith) (omega arith) e in absurd (omega arith))
    (λ oj e. differ i j (omega arith) (omega arith) e))

pub pigeonhole : (bound count : ℕ) (f : ℕ → ℕ) → StayBelow count bound f → DifferBelow count f → count ≤ bound
pigeonhole bound zero f below differ = omega arith
pigeonhole zero (suc top) f below differ = let b = below 0 (omega arith) in absurd (omega arith)
pigeonhole (suc bound) (suc top) f below differ =
    let fewer = pigeonhole bound top (swapped top bound f) (swapped_below top bound f below differ) (swapped_differ top bound f differ) in
    omega arith
