-- How the words of a set are marked.
use Rattle.std.specs.Prelude.{◌≤◌, ◌+◌, ◌%◌, ℕ, List, [], ◌∷◌, slice_index_or}
use Rattle.md_nbtc_sets.specs.declared.marks.TheConstants.{MARKS}

-- these words stand at the places from a number on. The mark of each one's remainder isn't later than its place
abbrev pub AreMarkedFrom : (marks words : List ℕ) → (place : ℕ) → Type 0
AreMarkedFrom marks [] place = Unit {0}
AreMarkedFrom marks (word ∷ words) place = (slice_index_or marks (word % MARKS) 0 ≤ place) × AreMarkedFrom marks words (place + 1)

abbrev pub AreMarked : (marks words : List ℕ) → Type 0
AreMarked marks words = AreMarkedFrom marks words 0
