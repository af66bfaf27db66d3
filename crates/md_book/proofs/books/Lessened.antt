-- Orders, where the one of a name has less left.
use Rattle.std.proofs.Common.{◌≡◌, ◌≤◌, ℕ, ◌+◌, ◌-◌, ◌==◌, nat_eq, Bool, true, false, cond, List, [], ◌∷◌, map, refl, sym, ap, subst, ◌∙◌, inl, inr, ◌⊎◌, suc, zero, Some, arith}
use Rattle.std.specs.Prelude.{find, filter, sum_by, All, slice_get}
use Rattle.std.specs.List.{IsDistinct, AllByRecursion}
use Rattle.std.proofs.lemmas.Bool.{eq-eqb, ne_eqb, eqb-false, cond-true, cond-false, cond_both}
use Rattle.std.proofs.lemmas.List.Elements.{All-map, All-weaker}
use Rattle.std.proofs.lemmas.List.Sums.{sum_by-cons}
use Rattle.std.proofs.lemmas.Map.Keys.{IsDistinct-head, IsDistinct-tail}
use Rattle.md_book.specs.Book.{Order, lessen, lessened}

-- an element stands in a list
abbrev pub Has : {X : Type 0} → List X → X → Type 0
Has [] x = ⊥
Has (y ∷ ys) x = (y ≡ x) ⊎ Has ys x

module _ {X : Type 0} (p : X → Bool) where
  -- what is found stands there and passes
  pub find-has : (xs : List X) (x : X) → find p xs ≡ Some x → Has xs x × (p x ≡ true)
  find-has [] x e = cc
  find-has (y ∷ ys) x e = elim (p y) as (λ b. p y ≡ b → cond b (Some y) (find p ys) ≡ Some x → Has (y ∷ ys) x × (p x ≡ true)) [
    | true ↦ λ passes found. let same : y ≡ x = cc in (inl same, ap p (sym same) ∙ passes)
    | false ↦ λ passes found. let more = find-has ys x found in (inr more.0, more.1)
  ] refl e

  get-cons : (y : X) (ys : List X) (k : ℕ) (x : X) → slice_get (y ∷ ys) k ≡ Some x → (y ≡ x) ⊎ ((j : ℕ) × (slice_get ys j ≡ Some x))
  get-cons y ys zero x e = let same : y ≡ x = cc in inl same
  get-cons y ys (suc k) x e = inr (k, e)

  -- what a filter keeps at a place stands there and passes
  pub filter-has : (xs : List X) (k : ℕ) (x : X) → slice_get (filter p xs) k ≡ Some x → Has xs x × (p x ≡ true)
  filter-has [] k x e = cc
  filter-has (y ∷ ys) k x e = elim (p y) as (λ b. p y ≡ b → slice_get (cond b (y ∷ filter p ys) (filter p ys)) k ≡ Some x → Has (y ∷ ys) x × (p x ≡ true)) [
    | true ↦ λ passes found. elim (get-cons y (filter p ys) k x found) [
      | inl same ↦ (inl same, ap p (sym same) ∙ passes)
      | inr there ↦ let more = filter-has ys there.0 x there.1 in (inr more.0, more.1)
    ]
    | false ↦ λ passes found. let more = filter-has ys k x found in (inr more.0, more.1)
  ] refl e

pub All-has : {X : Type 0} (P : X → Type 0) (xs : List X) (x : X) → AllByRecursion P xs → Has xs x → P x
All-has P [] x all has = absurd has
All-has P (y ∷ ys) x all (inl same) = subst P same all.0
All-has P (y ∷ ys) x all (inr there) = All-has P ys x all.1 there

All-names : (P : ℕ → Type 0) (os : List Order) → AllByRecursion P (map (λ o. o.name) os) → AllByRecursion (λ o. P o.name) os
All-names P [] all = all
All-names P (o ∷ os) all = (all.0, All-names P os all.1)

-- numbers that differ differ the other way round
pub apart-flip : (a b : ℕ) → nat_eq a b ≡ false → nat_eq b a ≡ false
apart-flip a b apart = ne_eqb b a (λ e. eqb-false a b apart (sym e))

module _ (name by : ℕ) where
  pub lessen-same : (o : Order) → o.name ≡ name → lessen name by o ≡ record o { left = o.left - by }
  lessen-same o e = cond-true (o.name == name) (record o { left = o.left - by }) o (eq-eqb o.name name e)

  pub lessen-other : (o : Order) → (o.name == name) ≡ false → lessen name by o ≡ o
  lessen-other o e = cond-false (o.name == name) (record o { left = o.left - by }) o e

  -- nothing changes where no order has the name
  pub lessened-none : (os : List Order) → AllByRecursion (λ n. nat_eq name n ≡ false) (map (λ o. o.name) os) → lessened os name by ≡ os
  lessened-none [] apart = refl
  lessened-none (o ∷ os) apart = ap (λ p. p ∷ lessened os name by) (lessen-other o (apart-flip name o.name apart.0)) ∙ ap (λ ps. o ∷ ps) (lessened-none os apart.1)

  -- what doesn't tell how much is left stays
  pub lessened-map : {A : Type 0} (f : Order → A) → ((o : Order) (left : ℕ) → f (record o { left = left }) ≡ f o) → (os : List Order) → map f (lessened os name by) ≡ map f os
  lessened-map f same [] = refl
  lessened-map f same (o ∷ os) =
      ap (λ x. x ∷ map f (lessened os name by)) (cond_both (o.name == name) (record o { left = o.left - by }) o (λ p. f p ≡ f o) (λ _. same o (o.left - by)) (λ _. refl))
      ∙ ap (λ xs. f o ∷ xs) (lessened-map f same os)

  pub lessened-filter : (p : Order → Bool) → ((o : Order) (left : ℕ) → p (record o { left = left }) ≡ p o) → (os : List Order) → filter p (lessened os name by) ≡ lessened (filter p os) name by
  lessened-filter p same [] = refl
  lessened-filter p same (o ∷ os) =
      ap (λ b. cond b (lessen name by o ∷ filter p (lessened os name by)) (filter p (lessened os name by))) (cond_both (o.name == name) (record o { left = o.left - by }) o (λ q. p q ≡ p o) (λ _. same o (o.left - by)) (λ _. refl))
      ∙ ap (λ ps. cond (p o) (lessen name by o ∷ ps) ps) (lessened-filter p same os)
      ∙ cond_both (p o) (o ∷ filter p os) (filter p os) (λ ps. cond (p o) (lessen name by o ∷ lessened (filter p os) name by) (lessened (filter p os) name by) ≡ lessened ps name by)
      (cond-true (p o) (lessen name by o ∷ lessened (filter p os) name by) (lessened (filter p os) name by))
      (cond-false (p o) (lessen name by o ∷ lessened (filter p os) name by) (lessened (filter p os) name by))

  -- what holds also with less left stays true of each order
  pub lessened-All : (P : Order → Type 0) → ((o : Order) (left : ℕ) → left ≤ o.left → P o → P (record o { left = left })) → (os : List Order) → All P os → All P (lessened os name by)
  lessened-All P less os all =
      All-map P (lessen name by) os (All-weaker P (λ o. P (lessen name by o)) (λ o h. cond_both (o.name == name) (record o { left = o.left - by }) o P (λ _. less o (o.left - by) (omega arith) h) (λ _. h)) os all)

-- an order's part in a sum is replaced by that of the order with less left
pub lessened-sum : (f : Order → ℕ) (os : List Order) (o : Order) (by : ℕ) → IsDistinct nat_eq (map (λ p. p.name) os) → Has os o → sum_by f (lessened os o.name by) + f o ≡ sum_by f os + f (record o { left = o.left - by })
lessened-sum f [] o by distinct has = absurd has
lessened-sum f (x ∷ xs) o by distinct (inl same) =
    let others : lessened xs o.name by ≡ xs = ap (λ n. lessened xs n by) (ap (λ p. p.name) (sym same)) ∙ lessened-none x.name by xs (IsDistinct-head nat_eq x.name (map (λ p. p.name) xs) distinct) in
    let changed : f (lessen o.name by x) ≡ f (record o { left = o.left - by }) = ap f (lessen-same o.name by x (ap (λ p. p.name) same) ∙ (let less : Order → Order = λ p. record p { left = p.left - by } in ap less same)) in
    omega (arith, sum_by-cons f (lessen o.name by x) (lessened xs o.name by), sum_by-cons f x xs, changed, ap (sum_by f) others, ap f same)
lessened-sum f (x ∷ xs) o by distinct (inr there) =
    let apart : nat_eq x.name o.name ≡ false = All-has (λ p. nat_eq x.name p.name ≡ false) xs o (All-names (λ n. nat_eq x.name n ≡ false) xs (IsDistinct-head nat_eq x.name (map (λ p. p.name) xs) distinct)) there in
    let more = lessened-sum f xs o by (IsDistinct-tail nat_eq x.name (map (λ p. p.name) xs) distinct) there in
    omega (arith, sum_by-cons f (lessen o.name by x) (lessened xs o.name by), sum_by-cons f x xs, ap f (lessen-other o.name by x apart), more)
