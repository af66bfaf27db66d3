-- Sums over the lines of all callers, by tags and by numbers.
use Rattle.std.proofs.Common.{◌≡◌, ◌≤◌, ◌<◌, ◌⊎◌, ℕ, zero, suc, ◌+◌, ◌^◌, ◌==◌, Bool, true, cond, List, [], ◌∷◌, refl, sym, ap, subst, ◌∙◌, inl, inr, arith}
use Rattle.std.specs.Prelude.{◌/◌, ◌%◌, filter, sum_by}
use Rattle.std.specs.List.{AllByRecursion, range_with_len}
use Rattle.std.proofs.lemmas.Bool.{cases_Bool, cases_eq, cases_lt, cond-true, cond-false, eq-eqb, eqb-true, ne_eqb}
use Rattle.std.proofs.lemmas.List.Sums.{sum_by-cons}
use Rattle.md_book.proofs.sums.Sums.{sum_by-equal, sum_by-filter, sum_by-keys}
use Rattle.md_report.specs.Summary.{sum_to}
use Rattle.md_many_attempts.specs.Tags.{tag_of}
use Rattle.md_many.specs.Tags.{tags_after, IsInterleaving}
use Rattle.md_many.proofs.TagLaws.{line_of_tag}

-- a range with one more number
range-more : (v : ℕ → ℕ) (a n : ℕ) → sum_by v (range_with_len a (suc n)) ≡ sum_by v (range_with_len a n) + v (a + n)
range-more v a zero = let here : a ≡ a + 0 = omega arith in omega (arith, sum_by-cons v a [], ap v here)
range-more v a (suc n) =
    let last : a + 1 + n ≡ a + suc n = omega arith in
    omega (arith, sum_by-cons v a (range_with_len (a + 1) (suc n)), sum_by-cons v a (range_with_len (a + 1) n), range-more v (a + 1) n, ap v last)

-- a range in two parts
pub range-split : (v : ℕ → ℕ) (a m n : ℕ) → sum_by v (range_with_len a (m + n)) ≡ sum_by v (range_with_len a m) + sum_by v (range_with_len (a + m) n)
range-split v a zero n =
    let none : 0 + n ≡ n = omega arith in
    let here : a ≡ a + 0 = omega arith in
    omega (arith, ap (λ k. sum_by v (range_with_len a k)) none, ap (λ b. sum_by v (range_with_len b n)) here)
range-split v a (suc m) n =
    let more : suc m + n ≡ suc (m + n) = omega arith in
    let there : a + 1 + m ≡ a + suc m = omega arith in
    omega (
      arith,
      ap (λ k. sum_by v (range_with_len a k)) more,
      sum_by-cons v a (range_with_len (a + 1) (m + n)),
      sum_by-cons v a (range_with_len (a + 1) m),
      range-split v (a + 1) m n,
      ap (λ b. sum_by v (range_with_len b n)) there,
    )

-- the sum of the values of 1 to n is one over a range
pub sum_to-range : (f v : ℕ → ℕ) (a n : ℕ) → ((k : ℕ) → k < n → f (suc k) ≡ v (a + k)) → sum_to n f ≡ sum_by v (range_with_len a n)
unfolding sum_to
sum_to-range f v a zero same = refl
sum_to-range f v a (suc n) same = omega (arith, sum_to-range f v a n (λ k low. same k (omega (arith, low))), same n (omega arith), range-more v a n)

sum_to-self : (v : ℕ → ℕ) (n : ℕ) → sum_to n v ≡ sum_by v (range_with_len 1 n)
sum_to-self v n = sum_to-range v v 1 n (λ k low. let here : suc k ≡ 1 + k = omega arith in ap v here)

-- what a filter keeps passes its test
passes : (p : ℕ → Bool) (ts : List ℕ) → AllByRecursion (λ t. p t ≡ true) (filter p ts)
passes p [] = tt
passes p (t ∷ ts) = elim (cases_Bool (p t)) [
  | inl kept ↦ subst (AllByRecursion (λ u. p u ≡ true)) (sym (cond-true (p t) _ _ kept)) (kept, passes p ts)
  | inr dropped ↦ subst (AllByRecursion (λ u. p u ≡ true)) (sym (cond-false (p t) _ _ dropped)) (passes p ts)
]

module _ (g : ℕ → ℕ → ℕ) where
  -- the value of a tag's caller and line
  abbrev pub by_tag : ℕ → ℕ
  by_tag t = g (t / 2 ^ 32) (t % 2 ^ 32)

  -- over a caller's tags
  lines-sum : (caller n k : ℕ) → AllByRecursion (λ t. (t / 2 ^ 32 == caller) ≡ true) (tags_after caller n k)
      → sum_by by_tag (tags_after caller n k) ≡ sum_by (g caller) (range_with_len (n + 1) k)
  lines-sum caller n zero own = refl
  lines-sum caller n (suc k) own =
      let tag = tag_of caller (n + 1) in
      let is : tag / 2 ^ 32 ≡ caller = eqb-true _ _ own.0 in
      let small : n + 1 < 2 ^ 32 = omega arith in
      omega (
        arith,
        sum_by-cons by_tag tag (tags_after caller (n + 1) k),
        sum_by-cons (g caller) (n + 1) (range_with_len (n + 1 + 1) k),
        lines-sum caller (n + 1) k own.1,
        ap (λ c. g c (tag % 2 ^ 32)) is,
        ap (g caller) (line_of_tag caller (n + 1) small),
      )

  module _ (callers : ℕ) (count : ℕ → ℕ) where
    -- if who is no caller has no tag, all tags are of callers
    in-range : (ts : List ℕ) → ((c : ℕ) → (c ≡ 0) ⊎ (callers < c) → filter (λ t. t / 2 ^ 32 == c) ts ≡ [])
        → AllByRecursion (λ t. (1 ≤ t / 2 ^ 32) × (t / 2 ^ 32 < 1 + callers)) ts
    in-range [] none = tt
    in-range (t ∷ ts) none = (
      here,
      in-range ts (λ c out.
          sym (cond-false (caller == c) _ _ (ne_eqb caller c (λ e. outside (subst (λ d. (d ≡ 0) ⊎ (callers < d)) (sym e) out)))) ∙ none c out),
    )
      where
        caller : ℕ
        caller = t / 2 ^ 32

        is_own : (t ∷ filter (λ u. u / 2 ^ 32 == caller) ts ≡ []) → ⊥
        is_own e = cc e

        outside : (caller ≡ 0) ⊎ (callers < caller) → ⊥
        outside out = is_own (sym (cond-true (caller == caller) _ _ (eq-eqb caller caller refl)) ∙ none caller out)

        here : (1 ≤ caller) × (caller < 1 + callers)
        here = elim (cases_lt callers caller) [
          | inl past ↦ absurd (outside (inr past))
          | inr within ↦ elim (cases_eq caller 0) [
            | inl none ↦ absurd (outside (inl none))
            | inr some ↦ (omega (arith, some), omega (arith, within))
          ]
        ]

    -- over all tags, each once
    pub tags-sum : (ts : List ℕ) → IsInterleaving count ts → ((c : ℕ) → (c ≡ 0) ⊎ (callers < c) → count c ≡ 0)
        → sum_to callers (λ c. sum_to (count c) (g c)) ≡ sum_by by_tag ts
    tags-sum ts each none =
        let own : (c : ℕ) → ℕ = λ c. sum_by (λ t. cond (t / 2 ^ 32 == c) (by_tag t) 0) ts in
        sum_to-self (λ c. sum_to (count c) (g c)) callers
        ∙ sum_by-equal (λ c. sum_to (count c) (g c)) own (λ c.
        sum_to-self (g c) (count c)
        ∙ sym (lines-sum c 0 (count c) (subst (AllByRecursion (λ t. (t / 2 ^ 32 == c) ≡ true)) (each c) (passes (λ t. t / 2 ^ 32 == c) ts)))
        ∙ ap (sum_by by_tag) (sym (each c)) ∙ sum_by-filter by_tag (λ t. t / 2 ^ 32 == c) ts) (range_with_len 1 callers)
        ∙ sum_by-keys (λ t. t / 2 ^ 32) by_tag 1 callers ts (in-range ts (λ c out. each c ∙ ap (tags_after c 0) (none c out)))
