-- Numbers of nodes as numbers of 64 bits.
use Rattle.std.specs.Prelude.{◌-◌, ◌^◌, ℕ, min}

-- a number, or the greatest of 64 bits where it is more
abbrev pub capped : ℕ → ℕ
capped n = min n (2 ^ 64 - 1)
