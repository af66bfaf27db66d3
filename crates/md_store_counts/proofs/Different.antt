-- The different elements of a list, as a list with each once.
use Rattle.std.proofs.Common.{◌≡◌, ◌⊎◌, Bool, true, List, [], ◌∷◌, length, refl, sym, subst, ◌∙◌, ◌+◌, inl, inr, ⊎_elim, arith}
use Rattle.std.specs.List.{Contains, list_any}
use Rattle.std.proofs.lemmas.Bool.{cases_Bool, cond-true, cond-false, or_cases}
use Rattle.md_history.specs.Counts.{different_beside, different}
use Rattle.md_machine.proofs.lists.Rising.{here, in_cons, in_none, there}

-- elements that are as many as the different ones beside others, and hold each but these
record Beside {A : Type 0} (eq : A → A → Bool) (xs others : List A) : Type 0 where
  each : List A
  count : length each ≡ different_beside eq xs others
  all : (x : A) → Contains xs x → Contains each x ⊎ (list_any (eq x) others ≡ true)

-- and the different ones
pub record Once {A : Type 0} (eq : A → A → Bool) (xs : List A) : Type 0 where
  pub each : List A
  pub count : length each ≡ different eq xs
  pub all : (x : A) → Contains xs x → Contains each x

module _ {A : Type 0} (eq : A → A → Bool) (same : (x y : A) → eq x y ≡ true → x ≡ y) where
  beside : (xs others : List A) → Beside eq xs others
  beside [] others = record { each = []; count = refl; all = λ x c. absurd (in_none x c) }
  beside (x ∷ xs) others = ⊎_elim
      (λ known. let b = beside xs others in record {
        each = b.each;
        count = b.count ∙ sym (cond-true (list_any (eq x) others) (different_beside eq xs others) (1 + different_beside eq xs (x ∷ others)) known);
        all = λ y c. ⊎_elim (λ e. inr (subst (λ z. list_any (eq z) others ≡ true) e known)) (b.all y) (in_cons x xs y c);
      })
      (λ new. let b = beside xs (x ∷ others) in record {
        each = x ∷ b.each;
        count = (let n = b.count in omega (arith, n)) ∙ sym (cond-false (list_any (eq x) others) (different_beside eq xs others) (1 + different_beside eq xs (x ∷ others)) new);
        all = λ y c. ⊎_elim
            (λ e. inl (subst (Contains (x ∷ b.each)) e (here x b.each)))
            (λ later. ⊎_elim (λ i. inl (there x b.each y i))
            (λ any. ⊎_elim
            (λ this. inl (subst (Contains (x ∷ b.each)) (sym (same y x this)) (here x b.each)))
            inr
            (or_cases (eq y x) (list_any (eq y) others) any))
            (b.all y later))
            (in_cons x xs y c);
      })
      (cases_Bool (list_any (eq x) others))

  pub once : (xs : List A) → Once eq xs
  once xs = let b = beside xs [] in record {
    each = b.each;
    count = b.count;
    all = λ x c. ⊎_elim (λ i. i) (λ none. absurd (cc none)) (b.all x c);
  }
