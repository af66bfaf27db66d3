-- Different words that are charged to elements of a list, each element taking one word, are no more than those elements.
use Rattle.std.proofs.Common.{◌≡◌, ◌≢◌, ◌≤◌, ◌⊎◌, ℕ, suc, List, [], ◌∷◌, length, refl, sym, ap, subst, ◌∙◌, inl, inr, ⊎_elim, arith}
use Rattle.std.specs.List.{AllPairs, Contains}
use Rattle.std.proofs.lemmas.List.Elements.{All-contains}
use Rattle.md_machine.proofs.lists.Differ.{pairs_head, pairs_tail}
use Rattle.md_machine.proofs.lists.Rising.{here, in_cons, in_none, there}

-- a list without one of its elements
record Without {A : Type 0} (es : List A) (a : A) : Type 0 where
  rest : List A
  fewer : length es ≡ suc (length rest)
  others : (b : A) → Contains es b → (a ≡ b) ⊎ Contains rest b

without : {A : Type 0} (es : List A) (a : A) → Contains es a → Without es a
without [] a c = absurd (in_none a c)
without (x ∷ xs) a c = ⊎_elim
    (λ e. record {
      rest = xs;
      fewer = refl;
      others = λ b d. ⊎_elim (λ same. inl (sym e ∙ same)) inr (in_cons x xs b d);
    })
    (λ i. let w = without xs a i in record {
      rest = x ∷ w.rest;
      fewer = ap suc w.fewer;
      others = λ b d. ⊎_elim
          (λ same. inr (subst (Contains (x ∷ w.rest)) same (here x w.rest)))
          (λ later. ⊎_elim inl (λ j. inr (there x w.rest b j)) (w.others b later))
          (in_cons x xs b d);
    })
    (in_cons x xs a c)

module _ {A : Type 0} (Takes : ℕ → A → Type 0) where
  -- a word is charged to an element of the list
  abbrev pub ChargedTo : List A → ℕ → Type 0
  ChargedTo es x = (a : A) × Contains es a × Takes x a

  pub pigeons : ((x y : ℕ) (a : A) → Takes x a → Takes y a → x ≡ y) → (xs : List ℕ) (es : List A) → AllPairs (λ (x y : ℕ). x ≢ y) xs
      → ((x : ℕ) → Contains xs x → ChargedTo es x) → length xs ≤ length es
  pigeons one [] es differ each = omega arith
  pigeons one (x ∷ xs) es differ each =
      let mine = each x (here x xs) in
      let w = without es mine.0 mine.1 in
      let fewer = w.fewer in
      let less = pigeons one xs w.rest (pairs_tail (λ (x y : ℕ). x ≢ y) x xs differ) (λ y c.
      let other = each y (there x xs y c) in
      ⊎_elim
      (λ same. absurd (All-contains (λ (z : ℕ). x ≢ z) xs y (pairs_head (λ (x y : ℕ). x ≢ y) x xs differ) c
      (one x y other.0 (subst (Takes x) same mine.2) other.2)))
      (λ i. (other.0, i, other.2))
      (w.others other.0 other.1)) in
      omega (arith, fewer, less)
