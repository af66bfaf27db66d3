-- Finite maps from numbers to numbers when a key gets a value or loses it.
use Rattle.std.proofs.Common.{◌≡◌, ◌≢◌, ◌+◌, ℕ, true, false, cond, Some, None, sym, ap, ◌∙◌, inl, inr, arith}
use Rattle.std.specs.Prelude.{is_some}
use Rattle.std.specs.Ordering.{nat_cmp, eq_by_cmp}
use Rattle.std.specs.Cmp.{nat_cmp_total}
use Rattle.std.specs.FinMap as fin
use Rattle.std.proofs.lemmas.Bool.{cases_eq}
use Rattle.std.proofs.lemmas.Bool.Decides.{nat_tests}
use Rattle.md_history.specs.State.{Table}

-- a key is tied with itself, and with no other
tied : (k : ℕ) → eq_by_cmp nat_cmp k k ≡ true
tied k = grind (arith, nat_tests)

apart : (q k : ℕ) → q ≢ k → eq_by_cmp nat_cmp q k ≡ false
apart q k other = grind (arith, nat_tests)

-- maps that agree at one key and at all others are the same
same-at_each : (m n : Table) (k : ℕ) → fin.get m k ≡ fin.get n k
    → ((q : ℕ) → q ≢ k → fin.get m q ≡ fin.get n q) → m ≡ n
same-at_each m n k here others = fin.same_map nat_cmp_total fin.nat_cmp-IsAntisymmetric m n (λ q.
    elim (cases_eq q k) [
      | inl same ↦ ap (fin.get m) same ∙ here ∙ ap (fin.get n) (sym same)
      | inr other ↦ others q other
    ])

module _ (m : Table) (k : ℕ) where
  pub get-insert_same : (v : ℕ) → fin.get (fin.insert m k v) k ≡ Some v
  get-insert_same v =
      fin.get-insert nat_cmp_total m k v k ∙ ap (λ b. cond b (Some v) (fin.get m k)) (tied k)

  pub get-insert_other : (v q : ℕ) → q ≢ k → fin.get (fin.insert m k v) q ≡ fin.get m q
  get-insert_other v q other =
      fin.get-insert nat_cmp_total m k v q
      ∙ ap (λ b. cond b (Some v) (fin.get m q)) (apart q k other)

  pub get-remove_same : fin.get (fin.remove m k) k ≡ None
  get-remove_same =
      fin.get-remove nat_cmp_total m k k ∙ ap (λ b. cond b None (fin.get m k)) (tied k)

  pub get-remove_other : (q : ℕ) → q ≢ k → fin.get (fin.remove m k) q ≡ fin.get m q
  get-remove_other q other =
      fin.get-remove nat_cmp_total m k q ∙ ap (λ b. cond b None (fin.get m q)) (apart q k other)

  -- to remove a key that is absent changes nothing
  pub remove-absent : fin.get m k ≡ None → fin.remove m k ≡ m
  remove-absent none =
      same-at_each (fin.remove m k) m k (get-remove_same ∙ sym none) get-remove_other

  module _ (v : ℕ) where
    -- to insert a key again with its value changes nothing
    pub insert-again : fin.get m k ≡ Some v → fin.insert m k v ≡ m
    insert-again some =
        same-at_each (fin.insert m k v) m k (get-insert_same v ∙ sym some) (get-insert_other v)

    -- a key that is there gets a value: there are as many keys as before
    pub len-replaced : (x : ℕ) → fin.get m k ≡ Some x → fin.len (fin.insert m k v) ≡ fin.len m
    len-replaced x there =
        fin.len-insert nat_cmp_total m k v
        ∙ ap (λ o. cond (is_some o) (fin.len m) (fin.len m + 1)) there

-- to remove a key and insert it again is to give it another value
pub insert-removed : (m : Table) (k v : ℕ) → fin.insert (fin.remove m k) k v ≡ fin.insert m k v
insert-removed m k v =
    same-at_each (fin.insert (fin.remove m k) k v) (fin.insert m k v) k
    (get-insert_same (fin.remove m k) k v ∙ sym (get-insert_same m k v)) (λ q other.
    get-insert_other (fin.remove m k) k v q other ∙ get-remove_other m k q other
    ∙ sym (get-insert_other m k v q other))
