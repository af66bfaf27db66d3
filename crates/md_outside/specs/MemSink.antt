-- What a sink in memory is to its callers.
use Rattle.std.specs.Prelude.{◌≡◌, ℕ, ◌-◌, ◌≤◌, ◌⊎◌, List, ◌++◌, length, Option, None, Some}
use Rattle.std.specs.List.{Contains}
use Rattle.md_outside.specs.Causes.{next_count}

-- the bytes that it holds, how many more it has room for, the numbers of the calls that fail, and
-- how many calls and faults there were
pub record SinkState : Type 0 where
  pub held : List ℕ
  pub room : ℕ
  pub failing : List ℕ
  pub calls : ℕ
  pub faults : ℕ

-- A listed call fails, as does one with no room left, and takes nothing. Any other appends bytes
-- for which there is room.
abbrev pub MemTakes : SinkState → Option (List ℕ) → SinkState → Type 0
MemTakes old None new =
    (Contains old.failing (next_count old.calls) ⊎ (old.room ≡ 0))
    × (new ≡ record old { calls = next_count old.calls; faults = next_count old.faults })
MemTakes old (Some bytes) new =
    ¬ Contains old.failing (next_count old.calls) × (length bytes ≤ old.room)
    × (new ≡ record old { held = old.held ++ bytes; room = old.room - length bytes; calls = next_count old.calls })
