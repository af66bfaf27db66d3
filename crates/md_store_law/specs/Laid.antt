-- How nodes lie in a field that is laid: one after another, chained in their order, with every count 0.
use Rattle.std.specs.Prelude.{◌≡◌, ◌==◌, ◌&&◌, ◌+◌, ◌<◌, ◌≤◌, ℕ, Bool, false, List, [], ◌∷◌, ◌++◌, map as map_list, length, slice_index, slice_set, if◌then◌else◌}
use Rattle.std.specs.List.{filter, flat_map, range_with_len}
use Rattle.std.specs.FinMap as fin
use Rattle.md_words.specs.declared.shape.Shape.{Shape}
use Rattle.md_words.specs.Content.{counted_word}
use Rattle.md_words.specs.Link.{link_value}
use Rattle.md_words.specs.Place.{Place, bucket_head, queue_head, queue_tail, node_key, node_value, node_next}
use Rattle.md_words.specs.Layout.{Exists, address, bucket_of, node_count, first_desc}
use Rattle.md_words.specs.LayoutLaws.{IsField}
use Rattle.md_history.specs.State.{State, Table, map_at, queue_at}
use Rattle.md_machine.specs.declared.node.Structure.{Structure}
use Rattle.md_machine.specs.declared.node.Structure.TheVariants.{Bucket, Queue}
use Rattle.md_machine.specs.Machine.{word_at}

-- a node that is laid: the bucket or the queue that it is of, its key or its rank, and its value
pub record LaidNode : Type 0 where
  pub structure : Structure
  pub key : ℕ
  pub value : ℕ

abbrev pub same_structure : Structure → Structure → Bool
same_structure (Bucket map bucket) (Bucket other more) = (map == other) && (bucket == more)
same_structure (Queue queue) (Queue other) = queue == other
same_structure _ _ = false

-- the numbers of a structure's nodes, in order, where the first node of a list has this number
abbrev pub numbers_from : (first : ℕ) → List LaidNode → Structure → List ℕ
numbers_from first [] s = []
numbers_from first (n ∷ nodes) s =
    if same_structure n.structure s then first ∷ numbers_from (first + 1) nodes s else numbers_from (first + 1) nodes s

-- nodes are numbered from 1
abbrev pub numbers_of : List LaidNode → Structure → List ℕ
numbers_of nodes s = numbers_from 1 nodes s

-- the word that names a node, with the count 0
abbrev pub naming : ℕ → ℕ
naming node = counted_word (link_value node false) 0

-- the last number of a list, or one before it
abbrev pub last_of : ℕ → List ℕ → ℕ
last_of before [] = before
last_of before (n ∷ ns) = last_of n ns

-- where the chain of a structure's nodes begins
abbrev pub head_place : Structure → Place
head_place (Bucket map bucket) = bucket_head map bucket
head_place (Queue queue) = queue_head queue

module _ (shape : Shape) (words : List ℕ) where
  -- a place names the first of these nodes, the next word of each names the one after it, and that of the last one is 0
  abbrev pub Chained : Place → List ℕ → Type 0
  Chained place [] = word_at shape words place ≡ 0
  Chained place (n ∷ ns) = (word_at shape words place ≡ naming n) × Chained (node_next n) ns

  -- the nodes from a number on have these keys and values
  abbrev pub HaveFields : (first : ℕ) → List LaidNode → Type 0
  HaveFields first [] = Unit {0}
  HaveFields first (n ∷ nodes) =
      (word_at shape words (node_key first) ≡ n.key) × (word_at shape words (node_value first) ≡ n.value)
      × HaveFields (first + 1) nodes

  -- the node of a number has a key, a value and a next word of 0
  pub record IsZero (node : ℕ) : Type 0 where
    pub key : word_at shape words (node_key node) ≡ 0
    pub value : word_at shape words (node_value node) ≡ 0
    pub next : word_at shape words (node_next node) ≡ 0

-- The words of a field whose nodes are these, and nothing else. It says what each word holds: keys and values of the
-- nodes, which are chained in their order from the head of their bucket or queue; in the tail of a queue the name of its
-- last node; and 0 elsewhere.
pub record IsLaid (shape : Shape) (words : List ℕ) (nodes : List LaidNode) : Type 0 where
  pub field : IsField shape words
  pub fields : HaveFields shape words 1 nodes
  pub chains : (s : Structure) → Exists shape (head_place s) → Chained shape words (head_place s) (numbers_of nodes s)
  pub tails : (queue : ℕ) → queue < shape.queues
      → word_at shape words (queue_tail queue) ≡ naming (last_of 0 (numbers_of nodes (Queue queue)))
  pub unused : (node : ℕ) → length nodes < node → node ≤ node_count shape → IsZero shape words node
  pub base : slice_index words 0 ≡ 0
  pub descs : (word : ℕ) → first_desc shape ≤ word → slice_index words word ≡ 0

-- the dummies of the queues, whose rank and value are 0
abbrev pub dummies : (queues : ℕ) → List LaidNode
dummies queues = map_list (λ queue. record { structure = Queue queue; key = 0; value = 0 }) (range_with_len 0 queues)

-- the nodes of a bucket's pairs
abbrev pub pair_nodes : (map bucket : ℕ) → List (ℕ × ℕ) → List LaidNode
pair_nodes map bucket pairs = map_list (λ p. record { structure = Bucket map bucket; key = p.0; value = p.1 }) pairs

-- the nodes of a queue's values, with ranks from a first one
abbrev pub value_nodes : (queue rank : ℕ) → List ℕ → List LaidNode
value_nodes queue rank [] = []
value_nodes queue rank (v ∷ vs) =
    record { structure = Queue queue; key = rank; value = v } ∷ value_nodes queue (rank + 1) vs

-- the nodes of a map's pairs, by bucket
abbrev pub nodes_of_map : Shape → (pairs : ℕ → ℕ → List (ℕ × ℕ)) → (map : ℕ) → List LaidNode
nodes_of_map shape pairs map =
    flat_map (λ bucket. pair_nodes map bucket (pairs map bucket)) (range_with_len 0 shape.buckets)

-- those of the maps below a number, by map
abbrev pub nodes_of_maps : Shape → (pairs : ℕ → ℕ → List (ℕ × ℕ)) → (maps : ℕ) → List LaidNode
nodes_of_maps shape pairs maps = flat_map (nodes_of_map shape pairs) (range_with_len 0 maps)

-- the nodes of the values of the queues below a number, by queue
abbrev pub nodes_of_queues : (values : ℕ → List ℕ) → (queues : ℕ) → List LaidNode
nodes_of_queues values queues = flat_map (λ queue. value_nodes queue 1 (values queue)) (range_with_len 0 queues)

-- all nodes of a field: the dummies, then the pairs, then the values
abbrev pub nodes_by : Shape → (pairs : ℕ → ℕ → List (ℕ × ℕ)) → (values : ℕ → List ℕ) → List LaidNode
nodes_by shape pairs values =
    (dummies shape.queues ++ nodes_of_maps shape pairs shape.maps) ++ nodes_of_queues values shape.queues

-- the pairs of a map whose keys are of a bucket, in rising order of their keys
abbrev pub bucket_pairs : Shape → Table → (bucket : ℕ) → List (ℕ × ℕ)
bucket_pairs shape table bucket = filter (λ p. bucket_of shape p.0 == bucket) (fin.entries table)

-- the pairs of contents, by map and bucket
abbrev pub pairs_at : Shape → State → (map bucket : ℕ) → List (ℕ × ℕ)
pairs_at shape s map bucket = bucket_pairs shape (map_at s map) bucket

-- the nodes of contents
abbrev pub laid_nodes : Shape → State → List LaidNode
laid_nodes shape s = nodes_by shape (pairs_at shape s) (queue_at s)

-- contents have as many maps and queues as a shape
pub record HasMapsAndQueues (shape : Shape) (s : State) : Type 0 where
  pub maps : length s.maps ≡ shape.maps
  pub queues : length s.queues ≡ shape.queues

-- the words after a node was written and named in a word
abbrev pub appended : Shape → List ℕ → (end node key value : ℕ) → List ℕ
appended shape words end node key value =
    let keyed = slice_set words (address shape (node_key node)) key in
    slice_set (slice_set keyed (address shape (node_value node)) value) end (naming node)
