-- What is in a range of numbers, and what is found there first.
use Rattle.std.proofs.Common.{◌≡◌, ℕ, zero, suc, ◌+◌, ◌<◌, ◌≤◌, Bool, true, false, cond, List, [], ◌∷◌, map, refl, sym, ap, ◌∙◌, inl, inr, Some, None, arith}
use Rattle.std.specs.Prelude.{find}
use Rattle.std.specs.List.{range_with_len}
use Rattle.std.proofs.lemmas.Bool.{cases_eq}
use Rattle.md_book.proofs.books.Lessened.{Has}

-- what stands in a range is in it
pub has-range : (low n k : ℕ) → Has (range_with_len low n) k → (low ≤ k) × (k < low + n)
has-range low zero k has = absurd has
has-range low (suc n) k (inl same) = (omega (arith, same), omega (arith, same))
has-range low (suc n) k (inr there) = let more = has-range (low + 1) n k there in (omega (arith, more.0), omega (arith, more.1))

-- and the other way round
pub in-range : (low n k : ℕ) → low ≤ k → k < low + n → Has (range_with_len low n) k
in-range low zero k from below = absurd (omega arith)
in-range low (suc n) k from below = elim (cases_eq low k) [
  | inl same ↦ inl same
  | inr apart ↦ inr (in-range (low + 1) n k (omega (arith, apart)) (omega arith))
]

-- what a function makes of an element stands in the list that it makes
pub has-map : {X Y : Type 0} (g : X → Y) (xs : List X) (x : X) → Has xs x → Has (map g xs) (g x)
has-map g [] x has = absurd has
has-map g (y ∷ ys) x (inl same) = inl (ap g same)
has-map g (y ∷ ys) x (inr there) = inr (has-map g ys x there)

-- and comes from an element
pub map-has : {X Y : Type 0} (g : X → Y) (xs : List X) (y : Y) → Has (map g xs) y → (x : X) × Has xs x × (g x ≡ y)
map-has g [] y has = absurd has
map-has g (x ∷ xs) y (inl same) = (x, inl refl, same)
map-has g (x ∷ xs) y (inr there) = let more = map-has g xs y there in (more.0, inr more.1, more.2)

module _ {X : Type 0} (p : X → Bool) where
  -- where nothing is found, nothing passes
  pub none-has : (xs : List X) (x : X) → find p xs ≡ None → Has xs x → p x ≡ false
  none-has [] x none has = absurd has
  none-has (y ∷ ys) x none has = elim (p y) as (λ b. p y ≡ b → cond b (Some y) (find p ys) ≡ None → p x ≡ false) [
    | true ↦ λ passes found. cc
    | false ↦ λ fails found. elim has [
      | inl same ↦ ap p (sym same) ∙ fails
      | inr there ↦ none-has ys x found there
    ]
  ] refl none

  -- where nothing passes, nothing is found
  pub finds-none : (xs : List X) → ((x : X) → Has xs x → p x ≡ false) → find p xs ≡ None
  finds-none [] fails = refl
  finds-none (y ∷ ys) fails = ap (λ b. cond b (Some y) (find p ys)) (fails y (inl refl)) ∙ finds-none ys (λ x has. fails x (inr has))

-- the first of a range that passes is found, under a function too
module _ (g : ℕ → ℕ) (p : ℕ → Bool) where
  -- it is the first that passes
  pub finds-first : (low n k : ℕ) → low ≤ k → k < low + n → p (g k) ≡ true → ((j : ℕ) → low ≤ j → j < k → p (g j) ≡ false)
      → find p (map g (range_with_len low n)) ≡ Some (g k)
  finds-first low zero k from below passes first = absurd (omega arith)
  finds-first low (suc n) k from below passes first = elim (cases_eq low k) [
    | inl same ↦ ap (λ b. cond b (Some (g low)) (find p (map g (range_with_len (low + 1) n)))) (ap (λ j. p (g j)) same ∙ passes) ∙ ap (λ j. Some (g j)) same
    | inr apart ↦
        ap (λ b. cond b (Some (g low)) (find p (map g (range_with_len (low + 1) n)))) (first low (omega arith) (omega (arith, apart)))
        ∙ finds-first (low + 1) n k (omega (arith, apart)) (omega arith) passes (λ j above under. first j (omega arith) under)
  ]

-- a list is as it was under the function that changes nothing
pub map-same : (xs : List ℕ) → map (λ x. x) xs ≡ xs
map-same [] = refl
map-same (x ∷ xs) = ap (λ ys. x ∷ ys) (map-same xs)
