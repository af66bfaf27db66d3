-- Lists of numbers that rise, and their elements. That a lane is one of some lanes is md_history's; crates above have it
-- from here too.
use Rattle.std.proofs.Common.{◌≡◌, ℕ, zero, suc, ◌+◌, ◌<◌, ◌≤◌, ◌⊎◌, Bool, true, List, [], ◌∷◌, map, take, drop, refl, sym, ap, ◌∙◌, subst, inl, inr, ⊎_elim, arith}
use Rattle.std.specs.List.{Contains, filter, range_with_len}
use Rattle.std.proofs.lemmas.Bool.{cond_both, cond-true, cases_order}
use Rattle.std.proofs.lemmas.List.{take-append-drop}
use Rattle.std.proofs.lemmas.List.Elements.{Contains-append_cases}
pub use Rattle.md_history.specs.FrontLaws.{lane_passes as in_lane, lane_is_of as lane_in}
use Rattle.md_machine.specs.clauses.passes.Lanes.{RiseFrom}

module _ {A : Type 0} where
  pub in_none : (y : A) → Contains [] y → ⊥
  in_none y c = omega (arith, c.1)

  pub in_cons : (x : A) (xs : List A) (y : A) → Contains (x ∷ xs) y → (x ≡ y) ⊎ Contains xs y
  in_cons x xs y (zero, c, e) = inl e
  in_cons x xs y (suc k, c, e) = inr (k, omega (arith, c), e)

  pub here : (x : A) (xs : List A) → Contains (x ∷ xs) x
  here x xs = (0, omega arith, refl)

  pub there : (x : A) (xs : List A) (y : A) → Contains xs y → Contains (x ∷ xs) y
  there x xs y (k, c, e) = (suc k, omega (arith, c), e)

  pub cons_in : (x : A) (xs : List A) (y : A) → (x ≡ y) ⊎ Contains xs y → Contains (x ∷ xs) y
  cons_in x xs y = ⊎_elim (λ e. subst (Contains (x ∷ xs)) e (here x xs)) (there x xs y)

  pub in_take : (k : ℕ) (xs : List A) (y : A) → Contains (take k xs) y → Contains xs y
  in_take zero xs y c = absurd (in_none y c)
  in_take (suc k) [] y c = absurd (in_none y c)
  in_take (suc k) (x ∷ xs) y c = ⊎_elim (λ e. cons_in x xs y (inl e)) (λ i. there x xs y (in_take k xs y i)) (in_cons x (take k xs) y c)

  pub in_drop : (k : ℕ) (xs : List A) (y : A) → Contains (drop k xs) y → Contains xs y
  in_drop zero xs y c = c
  in_drop (suc k) [] y c = c
  in_drop (suc k) (x ∷ xs) y c = there x xs y (in_drop k xs y c)

  pub take_or_drop : (k : ℕ) (xs : List A) (y : A) → Contains xs y → Contains (take k xs) y ⊎ Contains (drop k xs) y
  take_or_drop k xs y c = Contains-append_cases (take k xs) (drop k xs) y (subst (λ all. Contains all y) (sym (take-append-drop k xs)) c)

  pub in_filter : (test : A → Bool) (xs : List A) (y : A) → Contains (filter test xs) y → Contains xs y × (test y ≡ true)
  in_filter test [] y c = absurd (in_none y c)
  in_filter test (x ∷ xs) y c = cond_both (test x) (x ∷ filter test xs) (filter test xs) (λ l. Contains l y → Contains (x ∷ xs) y × (test y ≡ true))
      (λ passes c. ⊎_elim (λ e. (cons_in x xs y (inl e), ap test (sym e) ∙ passes)) (λ i. let r = in_filter test xs y i in (there x xs y r.0, r.1)) (in_cons x (filter test xs) y c))
      (λ fails c. let r = in_filter test xs y c in (there x xs y r.0, r.1)) c

  pub filter_in : (test : A → Bool) (xs : List A) (y : A) → Contains xs y → test y ≡ true → Contains (filter test xs) y
  filter_in test [] y c passes = absurd (in_none y c)
  filter_in test (x ∷ xs) y c passes = ⊎_elim
      (λ e. subst (λ l. Contains l y) (sym (cond-true (test x) (x ∷ filter test xs) (filter test xs) (ap test e ∙ passes))) (cons_in x (filter test xs) y (inl e)))
      (λ i. cond_both (test x) (x ∷ filter test xs) (filter test xs) (λ l. Contains l y) (λ _. there x (filter test xs) y (filter_in test xs y i passes)) (λ _. filter_in test xs y i passes))
      (in_cons x xs y c)

-- an element of a mapped list comes from one of the list, and the other way round
pub in_map : {A B : Type 0} (f : A → B) (xs : List A) (y : B) → Contains (map f xs) y → (x : A) × Contains xs x × (f x ≡ y)
in_map f [] y c = absurd (in_none y c)
in_map f (x ∷ xs) y c = ⊎_elim (λ e. (x, here x xs, e)) (λ i. let r = in_map f xs y i in (r.0, there x xs r.0 r.1, r.2)) (in_cons (f x) (map f xs) y c)

pub map_in : {A B : Type 0} (f : A → B) (xs : List A) (x : A) → Contains xs x → Contains (map f xs) (f x)
map_in f [] x c = absurd (in_none x c)
map_in f (y ∷ ys) x c = ⊎_elim (λ e. subst (λ z. Contains (map f (y ∷ ys)) (f z)) e (here (f y) (map f ys))) (λ i. there (f y) (map f ys) (f x) (map_in f ys x i)) (in_cons y ys x c)

pub rise_low : (low : ℕ) (xs : List ℕ) (y : ℕ) → RiseFrom low xs → Contains xs y → low ≤ y
rise_low low [] y r c = absurd (in_none y c)
rise_low low (x ∷ xs) y r c = let first = r.0 in ⊎_elim (λ e. omega (arith, e, first)) (λ i. let later = rise_low (x + 1) xs y r.1 i in omega (arith, later, first)) (in_cons x xs y c)

rise_lower : (low higher : ℕ) (xs : List ℕ) → low ≤ higher → RiseFrom higher xs → RiseFrom low xs
rise_lower low higher [] h r = tt
rise_lower low higher (x ∷ xs) h r = let first = r.0 in (omega (arith, h, first), r.1)

pub rise_take : (low k : ℕ) (xs : List ℕ) → RiseFrom low xs → RiseFrom low (take k xs)
rise_take low zero xs r = tt
rise_take low (suc k) [] r = tt
rise_take low (suc k) (x ∷ xs) r = (r.0, rise_take (x + 1) k xs r.1)

pub rise_drop : (low k : ℕ) (xs : List ℕ) → RiseFrom low xs → RiseFrom low (drop k xs)
rise_drop low zero xs r = r
rise_drop low (suc k) [] r = tt
rise_drop low (suc k) (x ∷ xs) r = let first = r.0 in rise_lower low (x + 1) (drop k xs) (omega (arith, first)) (rise_drop (x + 1) k xs r.1)

-- what is taken lies below what is left
pub take_below_drop : (low k : ℕ) (xs : List ℕ) (x y : ℕ) → RiseFrom low xs → Contains (take k xs) x → Contains (drop k xs) y → x < y
take_below_drop low zero xs x y r c d = absurd (in_none x c)
take_below_drop low (suc k) [] x y r c d = absurd (in_none x c)
take_below_drop low (suc k) (z ∷ xs) x y r c d = ⊎_elim
    (λ e. let above = rise_low (z + 1) (drop k xs) y (rise_drop (z + 1) k xs r.1) d in omega (arith, e, above))
    (λ i. take_below_drop (z + 1) k xs x y r.1 i d)
    (in_cons z (take k xs) x c)

pub rise_filter : (low : ℕ) (test : ℕ → Bool) (xs : List ℕ) → RiseFrom low xs → RiseFrom low (filter test xs)
rise_filter low test [] r = tt
rise_filter low test (x ∷ xs) r = let first = r.0 in cond_both (test x) (x ∷ filter test xs) (filter test xs) (RiseFrom low)
    (λ _. (r.0, rise_filter (x + 1) test xs r.1))
    (λ _. rise_lower low (x + 1) (filter test xs) (omega (arith, first)) (rise_filter (x + 1) test xs r.1))

pub rise_range : (a n : ℕ) → RiseFrom a (range_with_len a n)
rise_range a zero = tt
rise_range a (suc n) = (omega arith, rise_range (a + 1) n)

pub in_range : (a n y : ℕ) → Contains (range_with_len a n) y → y < a + n
in_range a zero y c = absurd (in_none y c)
in_range a (suc n) y c = ⊎_elim (λ e. omega (arith, e)) (λ i. let r = in_range (a + 1) n y i in omega (arith, r)) (in_cons a (range_with_len (a + 1) n) y c)

pub range_in : (a n y : ℕ) → a ≤ y → y < a + n → Contains (range_with_len a n) y
range_in a zero y l h = absurd (omega (arith, l, h))
range_in a (suc n) y l h = cons_in a (range_with_len (a + 1) n) y (⊎_elim inl (λ later. inr (range_in (a + 1) n y later (omega (arith, h)))) (first_or a y l))
  where
    first_or : (a y : ℕ) → a ≤ y → (a ≡ y) ⊎ (a + 1 ≤ y)
    first_or a y l = ⊎_elim inl (λ o. ⊎_elim (λ b. inr (omega (arith, b))) (λ b. absurd (omega (arith, b, l))) o) (cases_order a y)
