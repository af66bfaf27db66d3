-- How many entries finite maps and lists of lists have at most.
use Rattle.std.proofs.Common.{◌≡◌, ◌≢◌, ◌+◌, ◌<◌, ◌≤◌, ℕ, zero, suc, cond, Bool, true, false, List, [], ◌∷◌, length, refl, sym, ap, subst, ◌∙◌, arith, inl, inr}
use Rattle.std.specs.Prelude.{◌-◌, ◌==◌, ◌||◌, Option, Some, None, is_some, slice_index_or, sum_by, filter}
use Rattle.std.specs.List.{list_any}
use Rattle.std.specs.Ordering.{nat_cmp, eq_by_cmp}
use Rattle.std.specs.FinMap as fin
use Rattle.std.specs.Cmp.{nat_cmp_total, unsigned_tied}
use Rattle.std.proofs.lemmas.Bool.{cases_Bool, eq-eqb, eqb-true, ne_eqb, false≢true}
use Rattle.std.proofs.lemmas.List.Sums.{sum_by-cons}
use Rattle.md_history.specs.State.{Table}

-- a map without keys
none-empty : (m : Table) → ((k : ℕ) → is_some (fin.get m k) ≡ false) → m ≡ fin.empty
none-empty m none = fin.same_map nat_cmp_total fin.nat_cmp-IsAntisymmetric m fin.empty
    (λ k. no (fin.get m k) (none k) ∙ sym (fin.get-empty nat_cmp k))
  where
    no : (o : Option ℕ) → is_some o ≡ false → o ≡ None
    no None e = refl
    no (Some x) e = absurd (false≢true (sym e))

-- without a key there is one entry less at most
len-less : (m : Table) (k : ℕ) → fin.len m ≤ fin.len (fin.remove m k) + 1
len-less m k = elim (cases_Bool (fin.contains_key m k)) [
  | inl has ↦
      let less : fin.len (fin.remove m k) ≡ fin.len m - 1 = fin.len-remove nat_cmp_total m k
      ∙ ap (λ b. cond b (fin.len m - 1) (fin.len m)) has in omega arith
  | inr has ↦
      let same : fin.len (fin.remove m k) ≡ fin.len m = fin.len-remove nat_cmp_total m k
      ∙ ap (λ b. cond b (fin.len m - 1) (fin.len m)) has in omega arith
]

-- which keys are left
still : (m : Table) (k q : ℕ) → is_some (fin.get (fin.remove m k) q) ≡ true
    → (is_some (fin.get m q) ≡ true) × (q ≢ k)
still m k q has = elim (cases_Bool (eq_by_cmp nat_cmp q k)) [
  | inl same ↦ absurd (false≢true (sym (ap (λ b. is_some (cond b None (fin.get m q))) same)
      ∙ ap is_some (sym (fin.get-remove nat_cmp_total m k q)) ∙ has))
  | inr apart ↦ (
    ap is_some (sym (ap (λ b. cond b None (fin.get m q)) apart)) ∙ ap is_some (sym (fin.get-remove nat_cmp_total m k q)) ∙ has,
    (λ same. false≢true (sym apart ∙ tied q k same)),
  )
]
  where
    tied : (q k : ℕ) → q ≡ k → eq_by_cmp nat_cmp q k ≡ true
    tied q k same = unsigned_tied q k ∙ eq-eqb q k same

-- a map whose keys are below a number
pub few-below : (n : ℕ) (m : Table) → ((k : ℕ) → is_some (fin.get m k) ≡ true → k < n) → fin.len m ≤ n
few-below zero m below =
    let none : (k : ℕ) → is_some (fin.get m k) ≡ false = λ k. elim (cases_Bool (is_some (fin.get m k))) [
      | inl has ↦ let low = below k has in absurd (omega arith)
      | inr apart ↦ apart
    ] in
    omega (arith, ap fin.len (none-empty m none), fin.len-empty nat_cmp ℕ)
few-below (suc n) m below = omega (
  arith,
  len-less m n,
  few-below n (fin.remove m n) (λ k has. let was = still m n k has in let low = below k was.0 in let other = was.1 in
      elim (cases_Bool (k == n)) [
        | inl same ↦ absurd (other (eqb-true k n same))
        | inr apart ↦ lower k n low other
      ]),
)
  where
    lower : (k n : ℕ) → k < suc n → k ≢ n → k < n
    lower zero zero low other = absurd (other refl)
    lower zero (suc n) low other = omega arith
    lower (suc k) zero low other = absurd (omega arith)
    lower (suc k) (suc n) low other = let less = lower k n (omega arith) (λ e. other (ap suc e)) in omega arith

-- a map whose keys are in a list
pub few-in : (ks : List ℕ) (m : Table) → ((k : ℕ) → is_some (fin.get m k) ≡ true → list_any (λ x. x == k) ks ≡ true)
    → fin.len m ≤ length ks
few-in [] m within =
    let none : (k : ℕ) → is_some (fin.get m k) ≡ false = λ k. elim (cases_Bool (is_some (fin.get m k))) [
      | inl has ↦ absurd (false≢true (within k has))
      | inr apart ↦ apart
    ] in
    omega (arith, ap fin.len (none-empty m none), fin.len-empty nat_cmp ℕ)
few-in (x ∷ ks) m within = omega (
  arith,
  len-less m x,
  few-in ks (fin.remove m x) (λ k has. let was = still m x k has in
      elim (cases_Bool (x == k)) [
        | inl same ↦ absurd (was.1 (sym (eqb-true x k same)))
        | inr apart ↦ ap (λ b. b || list_any (λ y. y == k) ks) (sym apart) ∙ within k was.0
      ]),
)

-- what lists of lists have in all, each at most so many
total : (ℕ → ℕ) → ℕ → List (List ℕ) → ℕ
total f k [] = 0
total f k (q ∷ qs) = f k + total f (k + 1) qs

lists-few : (f : ℕ → ℕ) (k : ℕ) (qs : List (List ℕ))
    → ((i : ℕ) → i < length qs → length (slice_index_or qs i []) ≤ f (k + i)) → sum_by length qs ≤ total f k qs
unfolding total
lists-few f k [] each = omega arith
lists-few f k (q ∷ qs) each = omega (
  arith,
  sum_by-cons length q qs,
  (let first : length q ≤ f (k + 0) = each 0 (omega arith) in let same : k + 0 ≡ k = omega arith in subst (λ n. length q ≤ f n) same first),
  lists-few f (k + 1) qs (λ i inside. let next : k + suc i ≡ k + 1 + i = omega arith in
      subst (λ n. length (slice_index_or qs i []) ≤ f n) next (each (suc i) (omega arith))),
)

total-none : (key k : ℕ) (qs : List (List ℕ)) → key < k → total (λ i. cond (key == i) 1 0) k qs ≡ 0
unfolding total
total-none key k [] less = refl
total-none key k (q ∷ qs) less =
    let apart : (key == k) ≡ false = ne_eqb key k (λ e. omega arith) in
    rw apart (omega (arith, total-none key (k + 1) qs (omega arith)))

total-one : (key k : ℕ) (qs : List (List ℕ)) → total (λ i. cond (key == i) 1 0) k qs ≤ 1
unfolding total
total-one key k [] = omega arith
total-one key k (q ∷ qs) = elim (cases_Bool (key == k)) [
  | inl same ↦
      let is : key ≡ k = eqb-true key k same in
      rw same (omega (arith, total-none key (k + 1) qs (omega (arith, is))))
  | inr apart ↦ rw apart (omega (arith, total-one key (k + 1) qs))
]

total-add : (f g h : ℕ → ℕ) (k : ℕ) (qs : List (List ℕ)) → ((i : ℕ) → f i ≡ g i + h i)
    → total f k qs ≡ total g k qs + total h k qs
unfolding total
total-add f g h k [] is = refl
total-add f g h k (q ∷ qs) is = omega (arith, is k, total-add f g h (k + 1) qs is)

total-zero : (k : ℕ) (qs : List (List ℕ)) → total (λ i. 0) k qs ≡ 0
unfolding total
total-zero k [] = refl
total-zero k (q ∷ qs) = omega (arith, total-zero (k + 1) qs)

-- things that have a key each are counted once at most
keys-once : {A : Type 0} (key : A → ℕ) (xs : List A) (k : ℕ) (qs : List (List ℕ))
    → total (λ i. length (filter (λ x. key x == i) xs)) k qs ≤ length xs
keys-once key [] k qs = omega (arith, total-zero k qs)
keys-once key (x ∷ xs) k qs = omega (
  arith,
  total-add (λ i. length (filter (λ y. key y == i) (x ∷ xs))) (λ i. cond (key x == i) 1 0)
      (λ i. length (filter (λ y. key y == i) xs)) k qs (λ i. one (key x == i) (filter (λ y. key y == i) xs)),
  total-one (key x) k qs,
  keys-once key xs k qs,
)
  where
    one : (b : Bool) (ys : List _) → length (cond b (x ∷ ys) ys) ≡ cond b 1 0 + length ys
    one true ys = omega arith
    one false ys = omega arith

-- lists by the key of what they hold are no longer, in all, than what there is
pub lists-by-key : {A : Type 0} (key : A → ℕ) (xs : List A) (qs : List (List ℕ))
    → ((i : ℕ) → i < length qs → length (slice_index_or qs i []) ≤ length (filter (λ x. key x == i) xs))
    → sum_by length qs ≤ length xs
lists-by-key key xs qs each =
    let few : sum_by length qs ≤ total (λ i. length (filter (λ x. key x == i) xs)) 0 qs =
    lists-few (λ i. length (filter (λ x. key x == i) xs)) 0 qs (λ i inside. let same : i ≡ 0 + i = omega arith in
    subst (λ n. length (slice_index_or qs i []) ≤ length (filter (λ x. key x == n) xs)) same (each i inside)) in
    omega (arith, few, keys-once key xs 0 qs)
