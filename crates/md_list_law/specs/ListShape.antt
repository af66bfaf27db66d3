-- When words are a list: after Michael, "High Performance Dynamic Lock-Free Hash Tables and List-Based Sets" (2002).
use Rattle.std.specs.Prelude.{◌≡◌, ◌⊎◌, ◌≤◌, ◌<◌, ℕ, Bool, true, false, Some, Contains}
use Rattle.md_words.specs.declared.shape.Shape.{Shape}
use Rattle.md_words.specs.Link.{linked_node, is_marked}
use Rattle.md_words.specs.Place.{bucket_head, node_next}
use Rattle.md_words.specs.Layout.{address, bucket_of, IsNode}
use Rattle.md_machine.specs.declared.node.Structure.{Structure}
use Rattle.md_machine.specs.declared.node.Structure.TheVariants.{Bucket}
use Rattle.md_machine.specs.LogicalHeap.{LogicalHeap, next_of}
use Rattle.md_list_law.specs.Walk.{reached_nodes}

-- the next word of a node, and the head of a bucket
abbrev pub next_word : Shape → (node : ℕ) → ℕ
next_word shape node = address shape (node_next node)

abbrev pub head_word : Shape → (map bucket : ℕ) → ℕ
head_word shape map bucket = address shape (bucket_head map bucket)

-- the word is the next word of a node
abbrev pub IsNextWord : Shape → (word : ℕ) → Type 0
IsNextWord shape word = (node : ℕ) × IsNode shape node × (word ≡ next_word shape node)

-- a node is placed in a list
abbrev pub IsIn : LogicalHeap → Structure → (node : ℕ) → Type 0
IsIn h list node = h.placed node ≡ Some list

-- a value names no node or one of the list, and none or one of the list with a greater key
abbrev pub NamesNone : (value : ℕ) → Type 0
NamesNone value = linked_node value ≡ 0

abbrev pub Names : LogicalHeap → Structure → (value : ℕ) → Type 0
Names h list value = NamesNone value ⊎ IsIn h list (linked_node value)

abbrev pub NamesAbove : LogicalHeap → Structure → (key value : ℕ) → Type 0
NamesAbove h list key value = NamesNone value ⊎ (IsIn h list (linked_node value) × (key < h.words.key_of (linked_node value)))

-- past a marked word the key isn't smaller, and past an unmarked one it is greater
abbrev pub IsOnward : (marked : Bool) → (key next : ℕ) → Type 0
IsOnward true key next = key ≤ next
IsOnward false key next = key < next

-- a value names no node or one of the list, whose key is onward of this one, by the value's mark
abbrev pub NamesOnward : LogicalHeap → Structure → (key value : ℕ) → Type 0
NamesOnward h list key value = NamesNone value
    ⊎ (IsIn h list (linked_node value) × IsOnward (is_marked value) key (h.words.key_of (linked_node value)))

-- a node comes before another: its key is smaller, or it is the same and its rank is
abbrev pub Precedes : LogicalHeap → (rank : ℕ → ℕ) → (node other : ℕ) → Type 0
Precedes h rank node other = (h.words.key_of node < h.words.key_of other)
    ⊎ ((h.words.key_of node ≡ h.words.key_of other) × (rank node < rank other))

-- a value names no node, or one that comes after a node
abbrev pub NamesAfter : LogicalHeap → (rank : ℕ → ℕ) → (node value : ℕ) → Type 0
NamesAfter h rank node value = NamesNone value ⊎ Precedes h rank node (linked_node value)

-- each node of the list comes before the one that its next word names: so next words lead in no ring
abbrev pub IsRank : LogicalHeap → Structure → (rank : ℕ → ℕ) → Type 0
IsRank h list rank = (node : ℕ) → IsIn h list node → NamesAfter h rank node (next_of h.words node)

-- the placed nodes of a list, and the word that is its head. Nodes are placed in it for good: those with a marked next
-- word were removed, and may be out of reach
pub record IsList (h : LogicalHeap) (list : Structure) (head : ℕ) : Type 0 where
  pub nodes : (node : ℕ) → IsIn h list node → IsNode h.words.shape node
  pub unmarked : is_marked (h.words.value head) ≡ false
  pub first : Names h list (h.words.value head)
  -- keys rise along next words, reached or not; a marked one, which may name the node that replaced its own, may name one
  -- with the same key
  pub rises : (node : ℕ) → IsIn h list node → NamesOnward h list (h.words.key_of node) (next_of h.words node)
  -- ranks order nodes with the same key
  pub rank : ℕ → ℕ
  pub ranks : IsRank h list rank
  pub reached : (node : ℕ) → IsIn h list node → is_marked (next_of h.words node) ≡ false → Contains (reached_nodes h.words head) node

-- a bucket of a map: a list of keys of that bucket
pub record IsBucket (h : LogicalHeap) (map bucket : ℕ) : Type 0 where
  pub list : IsList h (Bucket map bucket) (head_word h.words.shape map bucket)
  pub keys : (node : ℕ) → IsIn h (Bucket map bucket) node → bucket_of h.words.shape (h.words.key_of node) ≡ bucket
