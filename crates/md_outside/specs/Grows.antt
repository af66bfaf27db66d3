-- What a write that failed may have done.
use Rattle.std.specs.Prelude.{ℕ, List, Option}
use Rattle.std.specs.Io.KnownBytes.{Appends}

-- known bytes stay at the front, and may have grown
abbrev pub Grows : Option (List ℕ) → Option (List ℕ) → Type 0
Grows old new = (bytes : List ℕ) × Appends old new bytes
