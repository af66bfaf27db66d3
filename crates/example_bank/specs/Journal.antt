-- How many transfers moved money, and which numbers a journal is to have that was empty at first.
use Rattle.std.specs.Prelude.{◌≡◌, ◌+◌, ◌/◌, ◌^◌, ◌==◌, ℕ, Bool, true, false, Option, Some, None, List, [], ◌∷◌, drop, filter, sum_by, count_by}
use Rattle.md_many_attempts.specs.Tags.{tag_of}
use Rattle.md_many_attempts.specs.ByCaller.{at_caller}
use Rattle.example_bank.specs.declared.bank.Outcome.{Outcome}
use Rattle.example_bank.specs.declared.bank.Outcome.TheVariants.{Moved, Refused}

-- whether a transfer moved money
abbrev pub is_moved : Outcome → Bool
is_moved Moved = true
is_moved (Refused why) = false

-- how many transfers of all tellers did
abbrev pub moved_among : List (List Outcome) → ℕ
moved_among outcomes = sum_by (count_by is_moved) outcomes

-- the tags of a teller's lines that moved money, of those after its first n
abbrev pub moved_after : ℕ → ℕ → List Outcome → List ℕ
moved_after teller n [] = []
moved_after teller n (Moved ∷ outcomes) = tag_of teller (n + 1) ∷ moved_after teller (n + 1) outcomes
moved_after teller n (Refused why ∷ outcomes) = moved_after teller (n + 1) outcomes

-- a teller's numbers of a journal
abbrev pub of_teller : ℕ → List ℕ → List ℕ
of_teller teller journal = filter (λ number. number / 2 ^ 32 == teller) journal

-- a journal has the tag of each line that moved money, once, those of each teller in their order, and no other number
abbrev pub IsJournalOf : List (List Outcome) → List ℕ → Type 0
IsJournalOf outcomes journal =
    (teller : ℕ) → of_teller teller journal ≡ moved_after teller 0 (at_caller [] outcomes teller)

-- the same tags, if the next of them is that of the line after so many, or if there is none
abbrev pub from_next : ℕ → List Outcome → Option ℕ → List ℕ
from_next teller outcomes None = []
from_next teller outcomes (Some next) =
    tag_of teller (next + 1) ∷ moved_after teller (next + 1) (drop (next + 1) outcomes)

-- the tags of a teller's lines that moved money, of those that aren't past, if so many lines of each teller are past
abbrev pub left_of : List (List Outcome) → List ℕ → ℕ → List ℕ
left_of outcomes past teller =
    moved_after teller (at_caller 0 past teller) (drop (at_caller 0 past teller) (at_caller [] outcomes teller))
