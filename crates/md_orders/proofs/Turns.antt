-- Callers take turns: how many of the first commands are a caller's.
use Rattle.std.proofs.Common.{◌≡◌, ◌<◌, ◌≤◌, ◌+◌, ◌-◌, ◌*◌, ◌/◌, ◌%◌, ◌∙◌, ◌++◌, ◌∷◌, ℕ, zero, suc, [], cond, length, sym, ap, subst, arith, inl, inr, length-append}
use Rattle.std.specs.Prelude.{filter}
use Rattle.std.specs.List.{range_with_len}
use Rattle.std.proofs.lemmas.Bool.{cases_eq, cases_lt, eq-eqb, ne_eqb}
use Rattle.std.proofs.lemmas.Nat.{div-mul-add, div-add-mod', mod_below}
use Rattle.std.proofs.lemmas.List.Elements.{filter-append}
use Rattle.md_orders.specs.Generator.{is_made_by}

-- one number more
pub range-more : (a n j : ℕ) → a + n ≡ j → range_with_len a (n + 1) ≡ range_with_len a n ++ j ∷ []
range-more a zero j at = let same : a ≡ j = omega arith in ap (λ k. k ∷ []) same
range-more a (suc n) j at = let more : suc n + 1 ≡ suc (n + 1) = omega arith in rw more (ap (λ xs. a ∷ xs) (range-more (a + 1) n j (omega arith)))

-- the quotient of a number, by its remainder
quotient : (m q n r : ℕ) → m ≡ q * n + r → r < n → m / n ≡ q
quotient m q n r is low = ap (λ k. k / n) is ∙ div-mul-add q n r low

-- The turns up to i, by its quotient q and its remainder r: a caller has had q, or one more if its turn in this round is over.
not-yet : (i q n r caller : ℕ) → i ≡ q * n + r → r < n → caller ≤ n → r + 1 ≤ caller → (i + (n - caller)) / n ≡ q
not-yet i q n r caller is low high turn = quotient (i + (n - caller)) q n (r + (n - caller)) (omega arith) (omega arith)

over : (i q n r caller : ℕ) → i ≡ q * n + r → r < n → caller ≤ n → caller ≤ r → (i + (n - caller)) / n ≡ q + 1
over i q n r caller is low high turn = quotient (i + (n - caller)) (q + 1) n (r - caller) (omega arith) (omega arith)

-- the same of the next number
next-over : (i q n r caller : ℕ) → i ≡ q * n + r → r < n → 1 ≤ caller → caller ≤ n → caller ≤ r + 1 → (i + 1 + (n - caller)) / n ≡ q + 1
next-over i q n r caller is below low high turn = quotient (i + 1 + (n - caller)) (q + 1) n (r + 1 - caller) (omega arith) (omega arith)

next-not-yet : (i q n r caller : ℕ) → i ≡ q * n + r → r < n → caller ≤ n → r + 1 < caller → (i + 1 + (n - caller)) / n ≡ q
next-not-yet i q n r caller is low high turn = quotient (i + 1 + (n - caller)) q n (r + 1 + (n - caller)) (omega arith) (omega arith)

-- one turn more, if it is the caller's
turns-more : (i n caller : ℕ) → 1 ≤ caller → caller ≤ n
    → (i + 1 + (n - caller)) / n ≡ (i + (n - caller)) / n + length (cond (is_made_by n caller i) (i ∷ []) [])
turns-more i n caller low high =
    let whole : i ≡ i / n * n + i % n = sym (div-add-mod' i n) in
    let below : i % n < n = mod_below i n (omega arith) in
    elim (cases_lt (i % n + 1) caller) [
      | inl less ↦
          rw (ne_eqb (i % n + 1) caller (λ e. omega (arith, e)))
          (omega (arith, next-not-yet i (i / n) n (i % n) caller whole below high less, not-yet i (i / n) n (i % n) caller whole below high (omega arith)))
      | inr more ↦ elim (cases_eq (i % n + 1) caller) [
        | inl mine ↦
            rw (eq-eqb (i % n + 1) caller mine)
            (omega (arith, next-over i (i / n) n (i % n) caller whole below low high more, not-yet i (i / n) n (i % n) caller whole below high (omega arith)))
        | inr other ↦
            rw (ne_eqb (i % n + 1) caller other)
            (omega (arith, next-over i (i / n) n (i % n) caller whole below low high more, over i (i / n) n (i % n) caller whole below high (omega arith)))
      ]
    ]

-- how many of the first i commands are a caller's
pub turns : (i n caller : ℕ) → 1 ≤ caller → caller ≤ n → length (filter (is_made_by n caller) (range_with_len 0 i)) ≡ (i + (n - caller)) / n
turns zero n caller low high = sym (quotient (0 + (n - caller)) 0 n (n - caller) (omega arith) (omega arith))
turns (suc i) n caller low high =
    let next : suc i ≡ i + 1 = omega arith in
    let mine = is_made_by n caller in
    subst (λ k. length (filter mine (range_with_len 0 k)) ≡ (k + (n - caller)) / n) (sym next) (
    ap (λ is. length (filter mine is)) (range-more 0 i i (omega arith))
    ∙ ap length (filter-append mine (range_with_len 0 i) (i ∷ []))
    ∙ length-append (filter mine (range_with_len 0 i)) _
    ∙ ap (λ k. k + length (cond (mine i) (i ∷ []) [])) (turns i n caller low high)
    ∙ sym (turns-more i n caller low high)
    )

-- of the caller whose turn it is, as many as there were rounds
pub turns-before : (i n : ℕ) → 1 ≤ n → length (filter (is_made_by n (i % n + 1)) (range_with_len 0 i)) ≡ i / n
turns-before i n low =
    let below : i % n < n = mod_below i n (omega arith) in
    turns i n (i % n + 1) (omega arith) (omega arith) ∙ not-yet i (i / n) n (i % n) (i % n + 1) (sym (div-add-mod' i n)) below (omega arith) (omega arith)
