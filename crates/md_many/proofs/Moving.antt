-- Things that stand in pairs and in values, and are moved from place to place.
use Rattle.std.proofs.Common.{◌≡◌, ◌<◌, ◌≤◌, ◌+◌, ◌==◌, ℕ, cond, Option, Some, None, List, [], ◌∷◌, length, refl, ap, arith}
use Rattle.std.specs.Prelude.{sum_by, slice_get}
use Rattle.std.specs.FinMap as fin
use Rattle.std.proofs.lemmas.Bool.{eq-eqb}
use Rattle.std.proofs.lemmas.List.Sums.{sum_by-cons}
use Rattle.md_history.specs.declared.acts.Op.{Op}
use Rattle.md_history.specs.declared.acts.Op.TheVariants.{Insert, Remove, Enqueue, Dequeue}
use Rattle.md_history.specs.State.{State, HaveSameNumbers, map_at, queue_at, after}
use Rattle.md_history.specs.Engine.{needed}
use Rattle.md_many.proofs.Bodies.{same-after}
use Rattle.md_many.proofs.Weighing.{Weights, weight, weight-insert, weight-remove, weight-remove_none, weight-enqueue, weight-dequeue, weight-dequeue_none, needed-weight}

-- which thing a pair holds, by the number of its map, and a value, by the number of its queue
pub record Things : Type 0 where
  pub in_pair : ℕ → ℕ × ℕ → ℕ
  pub in_value : ℕ → ℕ → ℕ

-- each thing weighs so much, wherever it stands
abbrev pub weights_of : Things → (ℕ → ℕ) → Weights
weights_of k f = record { pair = λ m e. f (k.in_pair m e); value = λ q v. f (k.in_value q v) }

-- one thing is counted, and no other
abbrev pub is : ℕ → ℕ → ℕ
is thing x = cond (x == thing) 1 0

-- Operations led from one state to another, and some things are out of their places: whatever each thing weighs, all
-- weigh what they did.
pub record HaveMoved (k : Things) (s t : State) (out : List ℕ) : Type 0 where
  pub numbers : HaveSameNumbers t s
  pub same : (f : ℕ → ℕ) → weight (weights_of k f) t + sum_by f out ≡ weight (weights_of k f) s

module _ (k : Things) where
  pub none-moved : (s : State) → HaveMoved k s s []
  none-moved s = record { numbers = record { maps = refl; queues = refl }; same = λ f. omega arith }

  -- all things are in places again: the contents need as many nodes as before
  pub moved-needed : (s t : State) → HaveMoved k s t [] → needed t ≡ needed s
  moved-needed s t m = omega (
    arith,
    needed-weight (weights_of k (λ _. 1)) s (λ n e. refl) (λ q v. refl),
    needed-weight (weights_of k (λ _. 1)) t (λ n e. refl) (λ q v. refl),
    m.same (λ _. 1),
    m.numbers.queues,
  )

  module _ (s t : State) (out : List ℕ) (m : HaveMoved k s t out) where
    goes-on : (op : Op) (out' : List ℕ)
        → ((f : ℕ → ℕ) → weight (weights_of k f) (after t op) + sum_by f out' ≡ weight (weights_of k f) t + sum_by f out)
        → HaveMoved k s (after t op) out'
    goes-on op out' changed = record {
      numbers = same-after t s op m.numbers;
      same = λ f. omega (arith, changed f, m.same f);
    }

    -- a pair is taken out, or there is none
    pub pair-taken : (n key v : ℕ) → fin.get (map_at t n) key ≡ Some v
        → HaveMoved k s (after t (Remove n key)) (k.in_pair n (key, v) ∷ out)
    pair-taken n key v some = goes-on (Remove n key) (k.in_pair n (key, v) ∷ out) (λ f. omega (
      arith,
      weight-remove (weights_of k f) t n key v some,
      sum_by-cons f (k.in_pair n (key, v)) out,
    ))

    pub no-pair : (n key : ℕ) → fin.get (map_at t n) key ≡ None → HaveMoved k s (after t (Remove n key)) out
    no-pair n key none =
        goes-on (Remove n key) out (λ f. omega (arith, weight-remove_none (weights_of k f) t n key none))

    -- the first value of a queue is taken out, or there is none
    pub value-taken : (q v : ℕ) → slice_get (queue_at t q) 0 ≡ Some v
        → HaveMoved k s (after t (Dequeue q)) (k.in_value q v ∷ out)
    value-taken q v some = goes-on (Dequeue q) (k.in_value q v ∷ out) (λ f. omega (
      arith,
      weight-dequeue (weights_of k f) t q v some,
      sum_by-cons f (k.in_value q v) out,
    ))

    pub no-value : (q : ℕ) → slice_get (queue_at t q) 0 ≡ None → HaveMoved k s (after t (Dequeue q)) out
    no-value q none = goes-on (Dequeue q) out (λ f. omega (arith, weight-dequeue_none (weights_of k f) t q none))

  module _ (s t : State) (thing : ℕ) (out : List ℕ) (m : HaveMoved k s t (thing ∷ out)) where
    -- a thing that was out is in a pair again, or in a value
    pub pair-put : (n key v : ℕ) → k.in_pair n (key, v) ≡ thing → n < length s.maps → fin.get (map_at t n) key ≡ None
        → HaveMoved k s (after t (Insert n key v)) out
    pair-put n key v holds there none = goes-on s t (thing ∷ out) m (Insert n key v) out (λ f. omega (
      arith,
      weight-insert (weights_of k f) t n key v (omega (arith, there, m.numbers.maps)) none,
      sum_by-cons f thing out,
      ap f holds,
    ))

    pub value-put : (q v : ℕ) → k.in_value q v ≡ thing → q < length s.queues
        → HaveMoved k s (after t (Enqueue q v)) out
    value-put q v holds there = goes-on s t (thing ∷ out) m (Enqueue q v) out (λ f. omega (
      arith,
      weight-enqueue (weights_of k f) t q v (omega (arith, there, m.numbers.queues)),
      sum_by-cons f thing out,
      ap f holds,
    ))

    -- a thing that is out isn't in a pair too, if it stood in one place at most
    pub not-there : (n key : ℕ) → ((v : ℕ) → k.in_pair n (key, v) ≡ thing) → weight (weights_of k (is thing)) s ≤ 1
        → fin.get (map_at t n) key ≡ None
    not-there n key holds once = each (fin.get (map_at t n) key) refl
      where
        each : (o : Option ℕ) → fin.get (map_at t n) key ≡ o → o ≡ None
        each None found = refl
        each (Some v) found =
            let one : is thing thing ≡ 1 = ap (λ b. cond b 1 0) (eq-eqb thing thing refl) in
            absurd (omega (
              arith,
              one,
              ap (is thing) (holds v),
              weight-remove (weights_of k (is thing)) t n key v found,
              sum_by-cons (is thing) thing out,
              m.same (is thing),
              once,
            ))
