-- Lists that lie one behind another in one list, each from one bound up to the next.
use Rattle.std.specs.Prelude.{◌≡◌, ◌+◌, ◌<◌, ◌≤◌, ℕ, List, length, map as map_list, slice_index, slice_range}
use Rattle.std.specs.List.{flat_map, range_with_len}

-- the list of a number
abbrev pub between : {X : Type 0} → List X → (bounds : List ℕ) → (number : ℕ) → List X
between joined bounds number = slice_range joined (slice_index bounds number) (slice_index bounds (number + 1))

-- there is a list of this number
pub record HasList {X : Type 0} (joined : List X) (bounds : List ℕ) (number : ℕ) : Type 0 where
  pub bounded : number + 1 < length bounds
  pub rises : slice_index bounds number ≤ slice_index bounds (number + 1)
  pub within : slice_index bounds (number + 1) ≤ length joined

-- they are the first lists of a sequence, so many of them
pub record AreFirst {X : Type 0} (joined : List X) (bounds : List ℕ) (lists : ℕ → List X) (count : ℕ) : Type 0 where
  pub all : joined ≡ flat_map lists (range_with_len 0 count)
  pub each : bounds ≡ map_list (λ number. length (flat_map lists (range_with_len 0 number))) (range_with_len 0 (count + 1))
