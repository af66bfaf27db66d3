-- A counted word has a count in its low half and a value in its high half.
use Rattle.std.specs.Prelude.{ℕ, ◌+◌, ◌*◌, ◌/◌, ◌%◌, ◌^◌, Bool, nat_eq, if◌then◌else◌, Option, Some, None}
use Rattle.md_words.specs.declared.content.Content.{Content}
use Rattle.md_words.specs.declared.content.Spot.{Spot}

-- the word that is made of a value and a count
unfoldable pub counted_word : ℕ → ℕ → ℕ
counted_word value count = value * 2 ^ 32 + count

-- the value and the count of a word
unfoldable pub value_of : ℕ → ℕ
value_of word = word / 2 ^ 32

unfoldable pub count_of : ℕ → ℕ
count_of word = word % 2 ^ 32

-- the same, as one content
abbrev pub word_of : Content → ℕ
word_of content = counted_word content.value content.count

abbrev pub content_of : ℕ → Content
content_of word = record { value = value_of word; count = count_of word }

-- with an even count the value is a node and a mark, with an odd count a slot of a descriptor
unfoldable pub is_even : ℕ → Bool
is_even count = nat_eq (count % 2) 0

-- the value that names a slot, and the slot that a value names
unfoldable pub spot_value : Spot → ℕ
spot_value spot = spot.desc * 256 + spot.slot

unfoldable pub spot_of : ℕ → Spot
spot_of value = record { desc = value / 256; slot = value % 256 }

-- the slot that stands in a word of this content
abbrev pub spot_in : Content → Option Spot
spot_in content = if is_even content.count then None else Some (spot_of content.value)
