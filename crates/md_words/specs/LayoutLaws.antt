-- What holds of the places and the words of every shape. Proofs above this crate go by these laws, and look
-- into no address.
use Rattle.std.specs.Prelude.{◌≡◌, ◌≢◌, ◌↔◌, ℕ, ◌^◌, ◌<◌, ◌≤◌, List, length, slice_index, slice_set, Bool, IsTrue}
use Rattle.md_words.specs.declared.shape.Shape.{Shape}
use Rattle.md_words.specs.declared.limits.TheConstants.{MAX_WORDS}
use Rattle.md_words.specs.Link.{link_value}
use Rattle.md_words.specs.Place.{Place, base_word, is_counted}
use Rattle.md_words.specs.Layout.{words_of, node_count, desc_count, bucket_of, IsNode, Exists, address}
use Rattle.md_words.specs.PlaceAt.{place_at, IsCounted}
use Rattle.md_words.specs.Lanes.{node_of, desc_of, OwnsNode, OwnsDesc, lane_of_node, lane_of_desc}

-- the words of a field of this shape
abbrev pub IsField : Shape → List ℕ → Type 0
IsField shape words = length words ≡ words_of shape

-- Each place has a word of the field, no two have one word, and each word is that of a place

abbrev pub AddressIsWord : Type 0
AddressIsWord = (shape : Shape) (p : Place) → Exists shape p → address shape p < words_of shape

abbrev pub AddressesDiffer : Type 0
AddressesDiffer = (shape : Shape) (p q : Place) → Exists shape p → Exists shape q → p ≢ q → address shape p ≢ address shape q

abbrev pub PlaceFound : Type 0
PlaceFound = (shape : Shape) (p : Place) → Exists shape p → place_at shape (address shape p) ≡ p

abbrev pub WordIsPlace : Type 0
WordIsPlace = (shape : Shape) (word : ℕ) → word < words_of shape → Exists shape (place_at shape word) × (address shape (place_at shape word) ≡ word)

abbrev pub BaseIsZero : Type 0
BaseIsZero = (shape : Shape) → address shape base_word ≡ 0

abbrev pub BucketExists : Type 0
BucketExists = (shape : Shape) (key : ℕ) → bucket_of shape key < shape.buckets

-- A write at a place is found there, and leaves every other place as it was

abbrev pub WriteLands : Type 0
WriteLands = (shape : Shape) (words : List ℕ) (p : Place) (x : ℕ) → IsField shape words → Exists shape p
    → slice_index (slice_set words (address shape p) x) (address shape p) ≡ x

abbrev pub WriteLeaves : Type 0
WriteLeaves = (shape : Shape) (words : List ℕ) (p q : Place) (x : ℕ) → Exists shape p → Exists shape q → p ≢ q
    → slice_index (slice_set words (address shape p) x) (address shape q) ≡ slice_index words (address shape q)

-- the same of a write at a word, whatever lies there
abbrev pub WordLeaves : Type 0
WordLeaves = (shape : Shape) (words : List ℕ) (word : ℕ) (q : Place) (x : ℕ) → Exists shape q → place_at shape word ≢ q
    → slice_index (slice_set words word x) (address shape q) ≡ slice_index words (address shape q)

-- the counted words are those of the counted places
abbrev pub CountedByPlace : Type 0
CountedByPlace = (shape : Shape) (p : Place) → Exists shape p → IsCounted shape (address shape p) ↔ IsTrue (is_counted p)

-- Words fit a `u32`, and so does the value that names a node or a descriptor

abbrev pub WordsFit : Type 0
WordsFit = (shape : Shape) → words_of shape ≤ MAX_WORDS

abbrev pub NodesFitValues : Type 0
NodesFitValues = (shape : Shape) (node : ℕ) (mark : Bool) → node ≤ node_count shape → link_value node mark < 2 ^ 32

abbrev pub DescsFitValues : Type 0
DescsFitValues = (shape : Shape) (desc : ℕ) → desc < desc_count shape → desc < 2 ^ 24

-- Each node past the base nodes has one lane, and so has each descriptor

abbrev pub BaseNodesExist : Type 0
BaseNodesExist = (shape : Shape) → shape.base ≤ node_count shape

abbrev pub NodeHasLane : Type 0
NodeHasLane = (shape : Shape) (lane node : ℕ)
    → OwnsNode shape lane node ↔ ((shape.base < node) × (node ≤ node_count shape) × (lane_of_node shape node ≡ lane))

abbrev pub DescHasLane : Type 0
DescHasLane = (shape : Shape) (lane desc : ℕ)
    → OwnsDesc shape lane desc ↔ ((desc < desc_count shape) × (lane_of_desc shape desc ≡ lane))

abbrev pub OwnNodeExists : Type 0
OwnNodeExists = (shape : Shape) (lane node : ℕ) → OwnsNode shape lane node → IsNode shape node

abbrev pub OwnDescExists : Type 0
OwnDescExists = (shape : Shape) (lane desc : ℕ) → OwnsDesc shape lane desc → desc < desc_count shape

-- A lane owns the nodes that it numbers, no others, and each under one number

abbrev pub NodeInLane : Type 0
NodeInLane = (shape : Shape) (lane i : ℕ) → lane < shape.lanes → i < shape.nodes → OwnsNode shape lane (node_of shape lane i)

abbrev pub NodeNumber : Type 0
NodeNumber = (shape : Shape) (lane node : ℕ) → OwnsNode shape lane node → (i : ℕ) × (i < shape.nodes) × (node ≡ node_of shape lane i)

abbrev pub NodesRise : Type 0
NodesRise = (shape : Shape) (lane i j : ℕ) → i < j → node_of shape lane i < node_of shape lane j

-- a lane has one descriptor
abbrev pub OneDesc : Type 0
OneDesc = (shape : Shape) (lane desc : ℕ) → lane < shape.lanes → OwnsDesc shape lane desc ↔ (desc ≡ desc_of lane)
