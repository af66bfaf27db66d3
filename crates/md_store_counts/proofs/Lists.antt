-- Elements of lists that are made of others, and their lengths.
use Rattle.std.proofs.Common.{◌≡◌, ◌*◌, ◌∙◌, ℕ, List, [], ◌∷◌, Option, Some, None, length, sym, ap, subst, ⊎_elim, arith}
use Rattle.std.specs.List.{Contains, cons_option, filter_map, flat_map}
use Rattle.std.proofs.Math.Nat.{mul-suc, mul-zero}
use Rattle.std.proofs.lemmas.List.{length-append}
use Rattle.std.proofs.lemmas.List.Elements.{Contains-append_cases, Contains-append_left, Contains-append_right}
use Rattle.md_machine.proofs.lists.Rising.{here, in_cons, in_none, there}

module _ {A B : Type 0} where
  pub in_flat : (f : A → List B) (xs : List A) (y : B) → Contains (flat_map f xs) y → (x : A) × Contains xs x × Contains (f x) y
  in_flat f [] y i = absurd (in_none y i)
  in_flat f (x ∷ xs) y i = ⊎_elim
      (λ now. (x, here x xs, now))
      (λ later. let r = in_flat f xs y later in (r.0, there x xs r.0 r.1, r.2))
      (Contains-append_cases (f x) (flat_map f xs) y i)

  pub flat_in : (f : A → List B) (xs : List A) (x : A) (y : B) → Contains xs x → Contains (f x) y → Contains (flat_map f xs) y
  flat_in f [] x y i j = absurd (in_none x i)
  flat_in f (z ∷ zs) x y i j = ⊎_elim
      (λ same. Contains-append_left (f z) (flat_map f zs) y (subst (λ w. Contains (f w) y) (sym same) j))
      (λ later. Contains-append_right (f z) (flat_map f zs) y (flat_in f zs x y later j))
      (in_cons z zs x i)

  -- what a function gives of an element is among what it gives of the list
  pub filter_map_in : (f : A → Option B) (xs : List A) (x : A) (y : B) → Contains xs x → f x ≡ Some y → Contains (filter_map f xs) y
  filter_map_in f [] x y i e = absurd (in_none x i)
  filter_map_in f (z ∷ zs) x y i e = ⊎_elim
      (λ same. subst (λ o. Contains (cons_option o (filter_map f zs)) y) (sym (ap f same ∙ e)) (here y (filter_map f zs)))
      (λ later. longer (f z) (filter_map f zs) y (filter_map_in f zs x y later e))
      (in_cons z zs x i)
    where
      longer : (o : Option B) (ys : List B) (y : B) → Contains ys y → Contains (cons_option o ys) y
      longer None ys y i = i
      longer (Some z) ys y i = there z ys y i

  -- lists of the same length each
  pub length_flat : (f : A → List B) (n : ℕ) → ((x : A) → length (f x) ≡ n) → (xs : List A) → length (flat_map f xs) ≡ n * length xs
  length_flat f n each [] = sym (mul-zero n)
  length_flat f n each (x ∷ xs) = length-append (f x) (flat_map f xs) ∙ (let a = each x in let b = length_flat f n each xs in
      let c = mul-suc n (length xs) in omega (arith, a, b, c))
