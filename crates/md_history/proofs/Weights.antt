-- What the entries of a finite map weigh, and what they weigh after a change.
use Rattle.std.proofs.Common.{◌≡◌, ◌+◌, ℕ, cond, Some, None, List, [], ◌∷◌, map, sym, ap, ◌∙◌, arith}
use Rattle.std.specs.Prelude.{sum_by}
use Rattle.std.specs.Ordering.{nat_cmp, is_eq}
use Rattle.std.specs.declared.cmp.Ordering.TheVariants.{Less, Equal, Greater}
use Rattle.std.specs.Cmp.{nat_cmp_total}
use Rattle.std.specs.FinMap as fin
use Rattle.std.specs.FinMap.Entries.{by_order}
use Rattle.std.proofs.lemmas.List.Sums.{sum_by-cons}
use Rattle.md_history.specs.State.{Table}
use Rattle.md_history.proofs.Keys.{get-remove_same, insert-again, insert-removed}

-- what is weighed of an entry, as its key or its value, and how much it weighs
module _ (f : ℕ → ℕ) (part : ℕ × ℕ → ℕ) where
  -- what a map's entries weigh
  abbrev pub weigh : Table → ℕ
  weigh m = sum_by f (map part (fin.entries m))

  sum-put : (k v : ℕ) (es : List (ℕ × ℕ)) → fin.find nat_cmp k es ≡ None
      → sum_by f (map part (fin.put nat_cmp k v es)) ≡ sum_by f (map part es) + f (part (k, v))
  sum-put k v [] none = omega (arith, sum_by-cons f (part (k, v)) [])
  sum-put k v (e ∷ es) none =
      elim (nat_cmp k e.0) as (λ r. cond (is_eq r) (Some e.1) (fin.find nat_cmp k es) ≡ None
      → sum_by f (map part
      (by_order r ((k, v) ∷ e ∷ es) ((e.0, v) ∷ es) (e ∷ fin.put nat_cmp k v es)))
      ≡ sum_by f (map part (e ∷ es)) + f (part (k, v))) [
        | Less ↦ λ _. omega (arith, sum_by-cons f (part (k, v)) (map part (e ∷ es)))
        | Equal ↦ λ some. cc
        | Greater ↦ λ rest. omega (
          arith,
          sum-put k v es rest,
          sum_by-cons f (part e) (map part es),
          sum_by-cons f (part e) (map part (fin.put nat_cmp k v es)),
        )
      ] none

  -- a key is added
  pub weigh-insert : (m : Table) (k v : ℕ) → fin.get m k ≡ None
      → weigh (fin.insert m k v) ≡ weigh m + f (part (k, v))
  weigh-insert m k v none =
      ap (λ es. sum_by f (map part es)) (fin.entries-insert nat_cmp_total m k v)
      ∙ sum-put k v (fin.entries m) (sym (fin.get-entries m k) ∙ none)

  -- a key is removed
  pub weigh-remove : (m : Table) (k v : ℕ) → fin.get m k ≡ Some v
      → weigh m ≡ weigh (fin.remove m k) + f (part (k, v))
  weigh-remove m k v some =
      ap weigh (sym (insert-removed m k v ∙ insert-again m k v some))
      ∙ weigh-insert (fin.remove m k) k v (get-remove_same m k)

  -- a key gets another value
  pub weigh-replaced : (m : Table) (k v x : ℕ) → fin.get m k ≡ Some x
      → weigh (fin.insert m k v) + f (part (k, x)) ≡ weigh m + f (part (k, v))
  weigh-replaced m k v x there =
      let now : weigh (fin.insert m k v) ≡ weigh (fin.remove m k) + f (part (k, v)) =
      ap weigh (sym (insert-removed m k v))
      ∙ weigh-insert (fin.remove m k) k v (get-remove_same m k) in
      omega (arith, now, weigh-remove m k x there)
