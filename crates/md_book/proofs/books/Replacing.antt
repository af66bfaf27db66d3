-- What it costs to replace a key's value.
use Rattle.std.proofs.Common.{◌≡◌, ℕ, ◌+◌, ◌-◌, ◌≤◌, ◌^◌, ◌==◌, min, true, false, cond, [], ◌∷◌, sym, subst, Option, Some, arith}
use Rattle.std.specs.FinMap as fin
use Rattle.md_history.specs.declared.acts.Op.TheVariants.{Get, Remove, Put}
use Rattle.md_history.specs.declared.acts.Reply.TheVariants.{Value}
use Rattle.md_history.specs.Act.{act_of}
use Rattle.md_history.specs.State.{State, map_at}
use Rattle.md_history.specs.Script.{done, call}
use Rattle.md_history.proofs.Plays.{made}
use Rattle.md_book.specs.Scripts.{value_or_0, put_or_remove, raise, lower}
use Rattle.md_book.proofs.steps.Costs.{Costs, costs-more, costs-put, costs-taken, costs-out}

module _ (level : ℕ) (s : State) (m k by : ℕ) where
  abbrev stood : Option ℕ
  stood = fin.get (map_at s m) k

  -- it grows
  pub raise-costs : Costs level (made (raise m k by) s) 1 3 1
  raise-costs = costs-put level m k stood stood (min (value_or_0 (Value stood) + by) (2 ^ 64 - 1))

  -- what it costs that a value is put, or its key removed, where the latter costs no more reads than that
  either : (v read : ℕ) → 1 ≤ read → Costs level (act_of (Get m k) (Value stood) ∷ act_of (Remove m k) (Value stood) ∷ []) read 2 0
      → Costs level (act_of (Get m k) (Value stood) ∷ made (put_or_remove m k v) s) read 3 1
  either v read some removed =
      elim (v == 0) as (λ b. Costs level (act_of (Get m k) (Value stood) ∷ made {R = Unit {0}} (cond b (call (Remove m k) (λ _. done tt)) (call (Put m k v) (λ _. done tt))) s) read 3 1) [
        | true ↦ costs-more removed read 3 1 (omega arith) (omega arith) (omega arith)
        | false ↦ costs-more (costs-put level m k stood stood v) read 3 1 (omega arith) (omega arith) (omega arith)
      ]

  -- it falls
  pub lower-costs : Costs level (made (lower m k by) s) 2 3 1
  lower-costs = either _ 2 (omega arith) (costs-out level m k stood stood)

  -- where the key has a value
  pub lower-costs_some : (x : ℕ) → stood ≡ Some x → Costs level (made (lower m k by) s) 1 3 1
  lower-costs_some x e = either _ 1 (omega arith)
      (subst (λ o. Costs level (act_of (Get m k) (Value o) ∷ act_of (Remove m k) (Value o) ∷ []) 1 2 0) (sym e) (costs-taken level m k x x))
