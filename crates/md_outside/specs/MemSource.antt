-- What a source in memory is to its callers.
use Rattle.std.specs.Prelude.{◌≡◌, ◌↔◌, ℕ, ◌≤◌, List, [], length, min, take, drop, Option, None, Some}
use Rattle.std.specs.Prelude.{Result, IfOk, IsErr, OnErr}
use Rattle.std.specs.List.{Contains}
use Rattle.md_outside.specs.Causes.{next_count}

-- the bytes that are left, the most that a call gives, the numbers of the calls that fail, and
-- how many calls and faults there were
pub record SourceState : Type 0 where
  pub left : List ℕ
  pub piece : ℕ
  pub failing : List ℕ
  pub calls : ℕ
  pub faults : ℕ

-- A listed call fails and takes nothing. Any other gives the front of what is left, at most a
-- piece, and none only where nothing is left.
abbrev pub MemGives : SourceState → Option (List ℕ) → SourceState → Type 0
MemGives old None new =
    Contains old.failing (next_count old.calls)
    × (new ≡ record old { calls = next_count old.calls; faults = next_count old.faults })
MemGives old (Some bytes) new =
    ¬ Contains old.failing (next_count old.calls)
    × (bytes ≡ take (length bytes) old.left) × (length bytes ≤ old.piece) × (bytes ≡ [] → old.left ≡ [])
    × (new ≡ record old { left = drop (length bytes) old.left; calls = next_count old.calls })

-- A read gives as much as there is, a piece has and the buffer holds, and leaves the rest of the buffer. It fails just
-- at a listed call, and then leaves the whole buffer. With what it moved, that determines its result and the buffer.
pub record IsExactRead {E : Type 0} (old : SourceState) (buffer : List ℕ) (result : Result ℕ E) (filled : List ℕ)
    : Type 0 where
  pub fails : IsErr result ↔ Contains old.failing (next_count old.calls)
  pub count : IfOk result (λ n. n ≡ min (min (length old.left) old.piece) (length buffer))
  pub tail : IfOk result (λ n. drop n filled ≡ drop n buffer)
  pub unread : OnErr result (filled ≡ buffer)
