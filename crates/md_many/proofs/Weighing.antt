-- What maps and queues weigh, if each pair and each value has a weight, and what they weigh after an operation.
use Rattle.std.proofs.Common.{◌≡◌, ◌<◌, ◌+◌, ℕ, zero, suc, Some, None, List, [], ◌∷◌, ◌++◌, length, map, get_or, set, drop, refl, sym, ap, ◌∙◌, cond, is_none, arith, inl, inr}
use Rattle.std.specs.Prelude.{sum_by, slice_get, flat_map, replicate}
use Rattle.std.specs.Ordering.{nat_cmp}
use Rattle.std.specs.FinMap as fin
use Rattle.std.proofs.lemmas.Bool.{cases_lt}
use Rattle.std.proofs.lemmas.List.{get_or_past, set-get_or}
use Rattle.std.proofs.lemmas.List.Sums.{sum_by-cons, sum_by-append, sum_by_push}
use Rattle.md_history.specs.declared.acts.Op.TheVariants.{Insert, Remove, Enqueue, Dequeue}
use Rattle.md_history.specs.State.{State, Table, empty_state, map_at, queue_at, with_map, with_queue, after}
use Rattle.md_history.specs.Engine.{needed}
use Rattle.md_history.proofs.Keys.{remove-absent}
use Rattle.md_history.proofs.Weights.{weigh, weigh-insert, weigh-remove}

-- how much a pair weighs, by the number of its map, and a value, by the number of its queue
pub record Weights : Type 0 where
  pub pair : ℕ → ℕ × ℕ → ℕ
  pub value : ℕ → ℕ → ℕ

-- a sum over a list, whose terms go by the place
abbrev pub sum_at : {A : Type 0} → (ℕ → A → ℕ) → List A → ℕ
sum_at f [] = 0
sum_at f (x ∷ xs) = f 0 x + sum_at (λ i. f (suc i)) xs

abbrev pub weight_of_map : (ℕ × ℕ → ℕ) → Table → ℕ
weight_of_map pair t = weigh (λ n. n) pair t

abbrev pub weight : Weights → State → ℕ
weight w s = sum_at (λ m t. weight_of_map (w.pair m) t) s.maps + sum_at (λ q xs. sum_by (w.value q) xs) s.queues

-- with another element at a place
sum_at-set : {A : Type 0} (f : ℕ → A → ℕ) (xs : List A) (i : ℕ) (y d : A) → i < length xs
    → sum_at f (set xs i y) + f i (get_or xs i d) ≡ sum_at f xs + f i y
sum_at-set f [] i y d there = absurd (omega (arith, there))
sum_at-set f (x ∷ xs) zero y d there = omega arith
sum_at-set f (x ∷ xs) (suc i) y d there =
    omega (arith, sum_at-set (λ j. f (suc j)) xs i y d (omega (arith, there)))

-- what is weighed of an entry, as its key or its value
pub weigh-part : (f : ℕ → ℕ) (part : ℕ × ℕ → ℕ) (t : Table) → weigh f part t ≡ weight_of_map (λ e. f (part e)) t
weigh-part f part t = each (fin.entries t)
  where
    each : (es : List (ℕ × ℕ)) → sum_by f (map part es) ≡ sum_by (λ n. n) (map (λ e. f (part e)) es)
    each [] = refl
    each (e ∷ es) = omega (
      arith,
      sum_by-cons f (part e) (map part es),
      sum_by-cons (λ n. n) (f (part e)) (map (λ d. f (part d)) es),
      each es,
    )

module _ (w : Weights) (s : State) where
  map-changed : (m : ℕ) (t : Table) → m < length s.maps
      → weight w (with_map s m t) + weight_of_map (w.pair m) (map_at s m) ≡ weight w s + weight_of_map (w.pair m) t
  map-changed m t there =
      omega (arith, sum_at-set (λ n u. weight_of_map (w.pair n) u) s.maps m t fin.empty there)

  queue-changed : (q : ℕ) (xs : List ℕ) → q < length s.queues
      → weight w (with_queue s q xs) + sum_by (w.value q) (queue_at s q) ≡ weight w s + sum_by (w.value q) xs
  queue-changed q xs there = omega (arith, sum_at-set (λ p ys. sum_by (w.value p) ys) s.queues q xs [] there)

  -- a pair is added
  pub weight-insert : (m k v : ℕ) → m < length s.maps → fin.get (map_at s m) k ≡ None
      → weight w (after s (Insert m k v)) ≡ weight w s + w.pair m (k, v)
  weight-insert m k v there none =
      let more = fin.insert (map_at s m) k v in
      ap (λ o. weight w (cond (is_none o) (with_map s m more) s)) none
      ∙ omega (arith, map-changed m more there, weigh-insert (λ n. n) (w.pair m) (map_at s m) k v none)

  -- a pair is removed
  pub weight-remove : (m k v : ℕ) → fin.get (map_at s m) k ≡ Some v
      → weight w (after s (Remove m k)) + w.pair m (k, v) ≡ weight w s
  weight-remove m k v some = elim (cases_lt m (length s.maps)) [
    | inl there ↦ omega (
      arith,
      map-changed m (fin.remove (map_at s m) k) there,
      weigh-remove (λ n. n) (w.pair m) (map_at s m) k v some,
    )
    | inr past ↦
        let none : fin.get (map_at s m) k ≡ None =
        ap (λ t. fin.get t k) (get_or_past s.maps m fin.empty past) ∙ fin.get-empty nat_cmp k in
        cc (sym some ∙ none)
  ]

  -- there is none to remove
  pub weight-remove_none : (m k : ℕ) → fin.get (map_at s m) k ≡ None → weight w (after s (Remove m k)) ≡ weight w s
  weight-remove_none m k none =
      ap (λ t. weight w (with_map s m t)) (remove-absent (map_at s m) k none)
      ∙ ap (λ ms. weight w (record { maps = ms; queues = s.queues })) (set-get_or s.maps m fin.empty)

  -- a value is added
  pub weight-enqueue : (q v : ℕ) → q < length s.queues
      → weight w (after s (Enqueue q v)) ≡ weight w s + w.value q v
  weight-enqueue q v there =
      omega (arith, queue-changed q (queue_at s q ++ v ∷ []) there, sum_by_push (w.value q) (queue_at s q) v)

  -- the first value is taken out
  pub weight-dequeue : (q v : ℕ) → slice_get (queue_at s q) 0 ≡ Some v
      → weight w (after s (Dequeue q)) + w.value q v ≡ weight w s
  weight-dequeue q v first = elim (cases_lt q (length s.queues)) [
    | inl there ↦ each (queue_at s q) refl there
    | inr past ↦
        let none : slice_get (queue_at s q) 0 ≡ None = ap (λ xs. slice_get xs 0) (get_or_past s.queues q [] past) in
        cc (sym first ∙ none)
  ]
    where
      each : (xs : List ℕ) → queue_at s q ≡ xs → q < length s.queues
          → weight w (after s (Dequeue q)) + w.value q v ≡ weight w s
      each [] is there =
          let none : slice_get (queue_at s q) 0 ≡ None = ap (λ xs. slice_get xs 0) is in
          cc (sym first ∙ none)
      each (x ∷ xs) is there =
          let here : slice_get (queue_at s q) 0 ≡ Some x = ap (λ ys. slice_get ys 0) is in
          let same : x ≡ v = cc (sym here ∙ first) in
          omega (
            arith,
            queue-changed q (drop 1 (queue_at s q)) there,
            ap (sum_by (w.value q)) is,
            ap (λ ys. sum_by (w.value q) (drop 1 ys)) is,
            sum_by-cons (w.value q) x xs,
            ap (w.value q) same,
          )

  -- there is none to take out
  pub weight-dequeue_none : (q : ℕ) → slice_get (queue_at s q) 0 ≡ None → weight w (after s (Dequeue q)) ≡ weight w s
  weight-dequeue_none q none = each (queue_at s q) refl
    where
      each : (xs : List ℕ) → queue_at s q ≡ xs → weight w (after s (Dequeue q)) ≡ weight w s
      each [] is =
          ap (λ xs. weight w (with_queue s q (drop 1 xs))) is
          ∙ ap (λ xs. weight w (with_queue s q xs)) (sym is)
          ∙ ap (λ qs. weight w (record { maps = s.maps; queues = qs })) (set-get_or s.queues q [])
      each (x ∷ xs) is =
          let some : slice_get (queue_at s q) 0 ≡ Some x = ap (λ ys. slice_get ys 0) is in
          cc (sym none ∙ some)

ones : {A : Type 0} (f : A → ℕ) → ((x : A) → f x ≡ 1) → (xs : List A) → sum_by f xs ≡ length xs
ones f one [] = refl
ones f one (x ∷ xs) = omega (arith, sum_by-cons f x xs, one x, ones f one xs)

same-sums : {A : Type 0} (f : ℕ → A → ℕ) (g : A → ℕ) → ((i : ℕ) (x : A) → f i x ≡ g x) → (xs : List A)
    → sum_at f xs ≡ sum_by g xs
same-sums f g same [] = refl
same-sums f g same (x ∷ xs) =
    omega (arith, sum_by-cons g x xs, same 0 x, same-sums (λ i. f (suc i)) g (λ i. same (suc i)) xs)

-- what the values of all queues weigh
pub weight-queues : (f : ℕ → ℕ) (qs : List (List ℕ))
    → sum_by f (flat_map (λ q. q) qs) ≡ sum_at (λ q xs. sum_by f xs) qs
weight-queues f [] = refl
weight-queues f (q ∷ qs) = sum_by-append f q (flat_map (λ r. r) qs) ∙ ap (λ n. sum_by f q + n) (weight-queues f qs)

-- contents need a node for each queue, and one for whatever weighs 1
pub needed-weight : (w : Weights) (s : State) → ((m : ℕ) (e : ℕ × ℕ) → w.pair m e ≡ 1)
    → ((q v : ℕ) → w.value q v ≡ 1) → needed s ≡ length s.queues + weight w s
needed-weight w s pair value = omega (
  arith,
  same-sums (λ m t. weight_of_map (w.pair m) t) fin.len (λ m t. each m (fin.entries t) ∙ sym (fin.len-entries t)) s.maps,
  same-sums (λ q xs. sum_by (w.value q) xs) length (λ q xs. ones (w.value q) (value q) xs) s.queues,
)
  where
    each : (m : ℕ) (es : List (ℕ × ℕ)) → sum_by (λ n. n) (map (w.pair m) es) ≡ length es
    each m [] = refl
    each m (e ∷ es) = omega (arith, sum_by-cons (λ n. n) (w.pair m e) (map (w.pair m) es), pair m e, each m es)

-- nothing weighs nothing
pub weight-empty : (w : Weights) (maps queues : ℕ) → weight w (empty_state maps queues) ≡ 0
weight-empty w maps queues = omega (
  arith,
  none (λ m t. weight_of_map (w.pair m) t) fin.empty (λ m. each m (fin.entries fin.empty) (sym (fin.len-entries fin.empty) ∙ fin.len-empty nat_cmp ℕ)) maps,
  none (λ q xs. sum_by (w.value q) xs) [] (λ q. refl) queues,
)
  where
    none : {A : Type 0} (f : ℕ → A → ℕ) (x : A) → ((i : ℕ) → f i x ≡ 0) → (n : ℕ) → sum_at f (replicate n x) ≡ 0
    none f x nothing zero = refl
    none f x nothing (suc n) = omega (arith, nothing 0, none (λ i. f (suc i)) x (λ i. nothing (suc i)) n)

    each : (m : ℕ) (es : List (ℕ × ℕ)) → length es ≡ 0 → sum_by (λ n. n) (map (w.pair m) es) ≡ 0
    each m [] empty = refl
    each m (e ∷ es) empty = absurd (omega (arith, empty))
