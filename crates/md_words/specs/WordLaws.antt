-- What holds of words and of their parts. Proofs above this crate go by these laws.
use Rattle.std.specs.Prelude.{◌≡◌, ℕ, ◌+◌, ◌*◌, ◌^◌, ◌<◌, Bool, true, false, not, Some}
use Rattle.md_words.specs.declared.content.Spot.{Spot}
use Rattle.md_words.specs.declared.status.Status.{Status}
use Rattle.md_words.specs.declared.status.Status.TheVariants.{InPrep}
use Rattle.md_words.specs.Content.{value_of, count_of, counted_word, content_of, is_even, spot_value, spot_of, spot_in}
use Rattle.md_words.specs.Link.{link_value, linked_node, is_marked}
use Rattle.md_words.specs.Status.{code_of, status_word, status_of, reads_of, serial_of}

-- A counted word has the value and the count that it was made of, and is made of its value and its count

abbrev pub ValueFound : Type 0
ValueFound = (value count : ℕ) → count < 2 ^ 32 → value_of (counted_word value count) ≡ value

abbrev pub CountFound : Type 0
CountFound = (value count : ℕ) → count < 2 ^ 32 → count_of (counted_word value count) ≡ count

abbrev pub PartsMakeWord : Type 0
PartsMakeWord = (word : ℕ) → counted_word (value_of word) (count_of word) ≡ word

abbrev pub CountFits : Type 0
CountFits = (word : ℕ) → count_of word < 2 ^ 32

abbrev pub ValueFits : Type 0
ValueFits = (word : ℕ) → word < 2 ^ 64 → value_of word < 2 ^ 32

abbrev pub CountedWordFits : Type 0
CountedWordFits = (value count : ℕ) → value < 2 ^ 32 → count < 2 ^ 32 → counted_word value count < 2 ^ 64

-- the word 0 has the value 0 and the count 0
abbrev pub ZeroIsEmpty : Type 0
ZeroIsEmpty = (value_of 0 ≡ 0) × (count_of 0 ≡ 0)

-- 0 is even, and one more turns an even count odd and an odd one even
abbrev pub ZeroIsEven : Type 0
ZeroIsEven = is_even 0 ≡ true

abbrev pub EvenTurns : Type 0
EvenTurns = (count : ℕ) → is_even (count + 1) ≡ not (is_even count)

-- A value has the spot that it was made of, and is made of its spot

abbrev pub SpotFound : Type 0
SpotFound = (spot : Spot) → spot.slot < 256 → spot_of (spot_value spot) ≡ spot

abbrev pub SpotMakesValue : Type 0
SpotMakesValue = (value : ℕ) → spot_value (spot_of value) ≡ value

-- a spot that is put into a word under an odd count stands there
abbrev pub SpotStands : Type 0
SpotStands = (spot : Spot) (count : ℕ) → spot.slot < 256 → count < 2 ^ 32 → is_even count ≡ false
    → spot_in (content_of (counted_word (spot_value spot) count)) ≡ Some spot

-- what stands in a word is its value, and its count is odd
abbrev pub StandingSpot : Type 0
StandingSpot = (word : ℕ) (spot : Spot) → spot_in (content_of word) ≡ Some spot
    → (is_even (count_of word) ≡ false) × (value_of word ≡ spot_value spot)

-- A value has the node and the mark that it was made of, and is made of its node and its mark

abbrev pub NodeFound : Type 0
NodeFound = (node : ℕ) (mark : Bool) → linked_node (link_value node mark) ≡ node

abbrev pub MarkFound : Type 0
MarkFound = (node : ℕ) (mark : Bool) → is_marked (link_value node mark) ≡ mark

abbrev pub LinkMakesValue : Type 0
LinkMakesValue = (value : ℕ) → link_value (linked_node value) (is_marked value) ≡ value

-- A status word has the parts that it was made of, and is made of its parts

abbrev pub StatusFound : Type 0
StatusFound = (status : Status) (reads serial : ℕ) → status_of (status_word status reads serial) ≡ status

abbrev pub ReadsFound : Type 0
ReadsFound = (status : Status) (reads serial : ℕ) → reads < 256 → reads_of (status_word status reads serial) ≡ reads

abbrev pub SerialFound : Type 0
SerialFound = (status : Status) (reads serial : ℕ) → reads < 256 → serial_of (status_word status reads serial) ≡ serial

abbrev pub PartsMakeStatus : Type 0
PartsMakeStatus = (word : ℕ) → status_word (status_of word) (reads_of word) (serial_of word) ≡ word

abbrev pub ReadsFit : Type 0
ReadsFit = (word : ℕ) → reads_of word < 256

abbrev pub StatusWordFits : Type 0
StatusWordFits = (status : Status) (reads serial : ℕ) → reads < 256 → serial < 2 ^ 54 → status_word status reads serial < 2 ^ 64

-- how far the word of a status lies above that of InPrep
abbrev pub StatusAdds : Type 0
StatusAdds = (status : Status) (reads serial : ℕ) → status_word status reads serial ≡ status_word InPrep reads serial + code_of status

-- an attempt that begins
abbrev pub BeginsAt : Type 0
BeginsAt = (serial : ℕ) → status_word InPrep 0 serial ≡ 1024 * serial
