-- The lanes of a bit set.
use Rattle.std.specs.Prelude.{◌==◌, ℕ, Bool, List, filter}
use Rattle.std.specs.Int.{bit_at}
use Rattle.std.specs.List.{range_with_len}
use Rattle.md_words.specs.declared.limits.TheConstants.{LANES}

-- the lane's bit is 1
abbrev pub has_lane : (bits lane : ℕ) → Bool
has_lane bits lane = bit_at bits lane == 1

-- the lanes whose bits are 1, in rising order
unfoldable pub lanes_in : (bits : ℕ) → List ℕ
lanes_in bits = filter (has_lane bits) (range_with_len 0 LANES)
