-- Where each place of a field lies. First comes the base word. Then come the bucket heads by map, two
-- words for each queue, three for each node, and the descriptors.
use Rattle.std.specs.Prelude.{◌≡◌, ℕ, ◌+◌, ◌-◌, ◌*◌, ◌%◌, ◌<◌, ◌≤◌, ⊤}
use Rattle.md_words.specs.declared.shape.Shape.{Shape}
use Rattle.md_words.specs.declared.limits.TheConstants.{SET, DESC_WORDS}
use Rattle.md_words.specs.Limits.{count_of_words}
use Rattle.md_words.specs.Place.{Place, base_word, bucket_head, queue_head, queue_tail, node_key, node_value, node_next, desc_status, read_word, read_content, slot_word, slot_old, slot_new}

-- a shape of these numbers
abbrev pub HasNumbers : Shape → (lanes nodes base tries maps buckets queues : ℕ) → Type 0
HasNumbers shape lanes nodes base tries maps buckets queues =
    (shape.lanes ≡ lanes) × (shape.nodes ≡ nodes) × (shape.base ≡ base) × (shape.tries ≡ tries)
    × (shape.maps ≡ maps) × (shape.buckets ≡ buckets) × (shape.queues ≡ queues)

-- the number of words
unfoldable pub words_of : Shape → ℕ
words_of shape = count_of_words shape.lanes shape.nodes shape.base shape.maps shape.buckets shape.queues

-- base nodes and those of every lane, numbered from 1
unfoldable pub node_count : Shape → ℕ
node_count shape = shape.base + shape.lanes * shape.nodes

-- one descriptor for each lane, numbered from 0
unfoldable pub desc_count : Shape → ℕ
desc_count shape = shape.lanes

-- the bucket of a key
unfoldable pub bucket_of : Shape → ℕ → ℕ
bucket_of shape key = key % shape.buckets

abbrev pub IsNode : Shape → ℕ → Type 0
IsNode shape node = (1 ≤ node) × (node ≤ node_count shape)

-- a descriptor has as many reads, and as many slots, as a transaction may have
abbrev pub IsInSet : Shape → ℕ → ℕ → Type 0
IsInSet shape desc i = (desc < desc_count shape) × (i < SET)

-- the shape has this place
abbrev pub Exists : Shape → Place → Type 0
Exists shape base_word = ⊤
Exists shape (bucket_head map bucket) = (map < shape.maps) × (bucket < shape.buckets)
Exists shape (queue_head queue) = queue < shape.queues
Exists shape (queue_tail queue) = queue < shape.queues
Exists shape (node_key node) = IsNode shape node
Exists shape (node_value node) = IsNode shape node
Exists shape (node_next node) = IsNode shape node
Exists shape (desc_status desc) = desc < desc_count shape
Exists shape (read_word desc i) = IsInSet shape desc i
Exists shape (read_content desc i) = IsInSet shape desc i
Exists shape (slot_word desc j) = IsInSet shape desc j
Exists shape (slot_old desc j) = IsInSet shape desc j
Exists shape (slot_new desc j) = IsInSet shape desc j

-- where the queues, the nodes and the descriptors begin
abbrev pub first_queue : Shape → ℕ
first_queue shape = 1 + shape.maps * shape.buckets

abbrev pub first_node : Shape → ℕ
first_node shape = first_queue shape + 2 * shape.queues

abbrev pub first_desc : Shape → ℕ
first_desc shape = first_node shape + 3 * node_count shape

-- where a descriptor, its reads and its slots begin
abbrev pub desc_start : Shape → ℕ → ℕ
desc_start shape desc = first_desc shape + DESC_WORDS * desc

abbrev pub slots_start : Shape → ℕ → ℕ
slots_start shape desc = desc_start shape desc + 1 + 2 * SET

-- the word of a place
unfoldable pub address : Shape → Place → ℕ
address shape base_word = 0
address shape (bucket_head map bucket) = 1 + map * shape.buckets + bucket
address shape (queue_head queue) = first_queue shape + 2 * queue
address shape (queue_tail queue) = first_queue shape + 2 * queue + 1
address shape (node_key node) = first_node shape + 3 * (node - 1)
address shape (node_value node) = first_node shape + 3 * (node - 1) + 1
address shape (node_next node) = first_node shape + 3 * (node - 1) + 2
address shape (desc_status desc) = desc_start shape desc
address shape (read_word desc i) = desc_start shape desc + 1 + 2 * i
address shape (read_content desc i) = desc_start shape desc + 1 + 2 * i + 1
address shape (slot_word desc j) = slots_start shape desc + 3 * j
address shape (slot_old desc j) = slots_start shape desc + 3 * j + 1
address shape (slot_new desc j) = slots_start shape desc + 3 * j + 2
