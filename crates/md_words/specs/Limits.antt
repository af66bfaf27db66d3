-- The numbers of a shape: their ranges, and how many words they make.
use Rattle.std.specs.Prelude.{ℕ, ◌+◌, ◌*◌, ◌≤◌}
use Rattle.md_words.specs.declared.limits.TheConstants.{LANES, MAX_NODES, MAX_BASE, MAX_TRIES, MAX_MAPS, MAX_BUCKETS, MAX_QUEUES, DESC_WORDS}

abbrev pub LanesFit : ℕ → Type 0
LanesFit lanes = (1 ≤ lanes) × (lanes ≤ LANES)

abbrev pub NodesFit : ℕ → Type 0
NodesFit nodes = (1 ≤ nodes) × (nodes ≤ MAX_NODES)

abbrev pub BaseFits : ℕ → Type 0
BaseFits base = base ≤ MAX_BASE

abbrev pub TriesFit : ℕ → Type 0
TriesFit tries = (1 ≤ tries) × (tries ≤ MAX_TRIES)

abbrev pub MapsFit : ℕ → Type 0
MapsFit maps = (1 ≤ maps) × (maps ≤ MAX_MAPS)

abbrev pub BucketsFit : ℕ → Type 0
BucketsFit buckets = (1 ≤ buckets) × (buckets ≤ MAX_BUCKETS)

abbrev pub QueuesFit : ℕ → Type 0
QueuesFit queues = queues ≤ MAX_QUEUES

-- the base word, the buckets, two words for each queue, three for each node, and a descriptor for each lane
abbrev pub count_of_words : (lanes nodes base maps buckets queues : ℕ) → ℕ
count_of_words lanes nodes base maps buckets queues =
    1 + maps * buckets + 2 * queues + 3 * (base + lanes * nodes) + DESC_WORDS * lanes

-- each number is in its range
pub record InRange (lanes nodes base tries maps buckets queues : ℕ) : Type 0 where
  pub lanes_fit : LanesFit lanes
  pub nodes_fit : NodesFit nodes
  pub base_fits : BaseFits base
  pub tries_fit : TriesFit tries
  pub maps_fit : MapsFit maps
  pub buckets_fit : BucketsFit buckets
  pub queues_fit : QueuesFit queues
