-- The next words of a transaction's nodes, lane by lane.
use Rattle.std.proofs.Common.{◌≡◌, ◌+◌, ◌-◌, ◌*◌, ◌/◌, ◌%◌, ◌<◌, ◌≤◌, ◌∷◌, ℕ, true, false, zero, suc, List, [], map, refl, sym, ap, ◌∙◌, subst, ⊎_elim, eqb-true, eq-eqb, nat_eq, nat_lt, ltb-true, lt-ltb, arith}
use Rattle.std.proofs.lemmas.Bool.{cases_Bool, cases_lt, true≢false}
use Rattle.std.proofs.lemmas.List.Elements.{Contains-append_cases, Contains-append_left, Contains-append_right}
use Rattle.std.specs.List.{Contains, flat_map, list_any, range_with_len}
use Rattle.md_words.specs.declared.shape.Shape.{Shape}
use Rattle.md_words.specs.Lanes.{node_of}
use Rattle.md_words.specs.Layout.{address}
use Rattle.md_words.specs.Place.{node_next}
use Rattle.md_machine.proofs.lists.Rising.{in_cons, in_map, in_none, in_range, map_in, range_in}
use Rattle.md_nbtc_law.specs.Calls.{is_next_word}
use Rattle.md_nbtc_law.proofs.exchanging.OwnSlots.{any_found, any_has}

pub in_flat : {A B : Type 0} (f : A → List B) (xs : List A) (y : B) → Contains (flat_map f xs) y → (x : A) × Contains xs x × Contains (f x) y
in_flat f [] y c = absurd (in_none y c)
in_flat f (x ∷ xs) y c = ⊎_elim (λ now. (x, (0, omega arith, refl), now)) (λ later. let r = in_flat f xs y later in (r.0, Contains-append_right (x ∷ []) xs r.0 r.1, r.2)) (Contains-append_cases (f x) (flat_map f xs) y c)

pub flat_in : {A B : Type 0} (f : A → List B) (xs : List A) (x : A) (y : B) → Contains xs x → Contains (f x) y → Contains (flat_map f xs) y
flat_in f [] x y cx cy = absurd (in_none x cx)
flat_in f (z ∷ xs) x y cx cy = ⊎_elim
    (λ same. Contains-append_left (f z) (flat_map f xs) y (subst (λ w. Contains (f w) y) (sym same) cy))
    (λ later. Contains-append_right (f z) (flat_map f xs) y (flat_in f xs x y later cy))
    (in_cons z xs x cx)

-- next words of a lane's nodes are three words apart
apart_by : (shape : Shape) (lane first k : ℕ) → address shape (node_next (node_of shape lane (first + k))) ≡ address shape (node_next (node_of shape lane first)) + 3 * k
unfolding address node_of
apart_by shape lane first k = omega arith

module _ (shape : Shape) (lane first n word : ℕ) where
  abbrev nodes : List ℕ
  nodes = map (node_of shape lane) (range_with_len first n)

  abbrev low : ℕ
  low = address shape (node_next (node_of shape lane first))

  -- the word is one of them exactly if it lies so many words on
  pub next_there : (k : ℕ) → k < n → word ≡ low + 3 * k → list_any (is_next_word shape word) nodes ≡ true
  next_there k less is = any_has (is_next_word shape word) nodes (node_of shape lane (first + k))
      (map_in (node_of shape lane) (range_with_len first n) (first + k) (range_in first n (first + k) (omega arith) (omega (arith, less))))
      (eq-eqb word (address shape (node_next (node_of shape lane (first + k)))) (is ∙ sym (apart_by shape lane first k)))

  pub next_place : list_any (is_next_word shape word) nodes ≡ true → (k : ℕ) × (k < n) × (word ≡ low + 3 * k)
  next_place is =
      let found = any_found (is_next_word shape word) nodes is in
      let at = in_map (node_of shape lane) (range_with_len first n) found.0 found.1 in
      let i = at.0 in
      let high = in_range first n i at.1 in
      let from = range_from first n i at.1 in (
        i - first,
        omega (arith, high, from),
        eqb-true word (address shape (node_next found.0)) found.2 ∙ ap (λ x. address shape (node_next x)) (sym at.2)
            ∙ ap (λ x. address shape (node_next (node_of shape lane x))) (omega (arith, from)) ∙ apart_by shape lane first (i - first),
      )
    where
      range_from : (a m y : ℕ) → Contains (range_with_len a m) y → a ≤ y
      range_from a zero y c = absurd (in_none y c)
      range_from a (suc m) y c = ⊎_elim (λ same. omega (arith, same)) (λ later. let up = range_from (a + 1) m y later in omega (arith, up)) (in_cons a (range_with_len (a + 1) m) y c)

  -- below the first it is none
  pub none_below : word < low → false ≡ list_any (is_next_word shape word) nodes
  none_below less = ⊎_elim
      (λ is. let at = next_place is in let here_k = at.2 in absurd (omega (arith, less, here_k)))
      (λ not. sym not)
      (cases_Bool (list_any (is_next_word shape word) nodes))

  pub none_between : low ≤ word → nat_eq ((word - low) % 3) 0 ≡ false → false ≡ list_any (is_next_word shape word) nodes
  none_between above odd = ⊎_elim
      (λ is. let at = next_place is in let e : (word - low) % 3 ≡ 0 = thirds at.0 at.2 in absurd (true≢false (sym (eq-eqb ((word - low) % 3) 0 e) ∙ odd)))
      (λ not. sym not)
      (cases_Bool (list_any (is_next_word shape word) nodes))
    where
      thirds : (k : ℕ) → word ≡ low + 3 * k → (word - low) % 3 ≡ 0
      thirds k e = omega (arith, e)

  pub some_at : low ≤ word → nat_eq ((word - low) % 3) 0 ≡ true → nat_lt ((word - low) / 3) n ≡ list_any (is_next_word shape word) nodes
  some_at above whole = ⊎_elim
      (λ less. lt-ltb ((word - low) / 3) n less ∙ sym (next_there ((word - low) / 3) less (back (eqb-true ((word - low) % 3) 0 whole))))
      (λ far. ⊎_elim
      (λ is. let at = next_place is in absurd (beyond at.0 at.1 at.2 far))
      (λ not. past_all far ∙ sym not)
      (cases_Bool (list_any (is_next_word shape word) nodes)))
      (cases_lt ((word - low) / 3) n)
    where
      back : (word - low) % 3 ≡ 0 → word ≡ low + 3 * ((word - low) / 3)
      back e = omega (arith, e, above)

      beyond : (k : ℕ) → k < n → word ≡ low + 3 * k → n ≤ (word - low) / 3 → ⊥
      beyond k less e far = omega (arith, less, e, far)

      past_all : n ≤ (word - low) / 3 → nat_lt ((word - low) / 3) n ≡ false
      past_all far = ⊎_elim (λ t. let less = ltb-true ((word - low) / 3) n t in absurd (omega (arith, far, less))) (λ f. f) (cases_Bool (nat_lt ((word - low) / 3) n))
