-- When a source or a sink may fail, by its count of faults.
use Rattle.std.specs.Prelude.{◌≡◌, ℕ, ◌+◌, ◌-◌, ◌^◌, ◌≤◌, min, List, length, Result, OnOk, OnErr, IfOk}

-- one more, in a count that stands still at `u64::MAX`
abbrev pub next_count : ℕ → ℕ
next_count count = min (count + 1) (2 ^ 64 - 1)

-- the count is greater than before, or stands at its end
abbrev pub Rose : ℕ → ℕ → Type 0
Rose before now = next_count before ≤ now

-- no count falls, Ok leaves it, and an Err comes only where it rose
pub record HasCause {T E : Type 0} (before now : ℕ) (result : Result T E) : Type 0 where
  pub later : before ≤ now
  pub kept : OnOk result (now ≡ before)
  pub failed : OnErr result (Rose before now)

-- on Ok(n), n is from 1 to the length of the part
abbrev pub TakesSome : {E : Type 0} → Result ℕ E → List ℕ → Type 0
TakesSome result part = IfOk result (λ n. (1 ≤ n) × (n ≤ length part))
