-- The heap as transactions see it: values without counts and descriptors, keys, and placed nodes.
use Rattle.std.specs.Prelude.{◌≡◌, ◌==◌, ℕ, Bool, not, List, [], ◌∷◌, Option, Some, if◌then◌else◌, IsTrue, IfSome}
use Rattle.md_words.specs.declared.shape.Shape.{Shape}
use Rattle.md_words.specs.Link.{is_marked}
use Rattle.md_words.specs.Place.{node_next}
use Rattle.md_words.specs.Layout.{address, IsNode}
use Rattle.md_words.specs.PlaceAt.{IsCounted}
use Rattle.md_machine.specs.declared.node.Structure.{Structure}
use Rattle.md_machine.specs.declared.node.Structure.TheVariants.{Bucket, Queue}
use Rattle.md_machine.specs.declared.certificate.Fact.{Fact}
use Rattle.md_machine.specs.declared.certificate.Change.{Change}
use Rattle.md_machine.specs.declared.certificate.NewNode.{NewNode}

-- the values of counted words, and the keys and values of nodes
pub record LogicalWords : Type 0 where
  pub shape : Shape
  pub value : ℕ → ℕ
  pub key_of : ℕ → ℕ
  pub value_of_node : ℕ → ℕ

-- these words, and the nodes that are placed, each with the bucket or queue that it belongs to
pub record LogicalHeap : Type 0 where
  pub words : LogicalWords
  pub placed : ℕ → Option Structure

-- the value of a node's next word
abbrev pub next_of : LogicalWords → ℕ → ℕ
next_of w node = w.value (address w.shape (node_next node))

-- a next word's value that never changes again: of a bucket's node a marked one, of a queue's node any but 0
abbrev pub is_settled : Structure → ℕ → Bool
is_settled (Bucket map bucket) value = is_marked value
is_settled (Queue queue) value = not (value == 0)

-- a fact is true in a heap
pub record Holds (h : LogicalHeap) (f : Fact) : Type 0 where
  pub placed : h.placed f.node ≡ Some f.structure
  pub key : IfSome f.key (λ k. h.words.key_of f.node ≡ k)
  pub value : IfSome f.value (λ v. h.words.value_of_node f.node ≡ v)
  pub next : IfSome f.next (λ v. (next_of h.words f.node ≡ v) × IsTrue (is_settled f.structure v))

-- a function with another value at one number
abbrev pub put : {A : Type 0} → (ℕ → A) → ℕ → A → ℕ → A
put f at x n = if n == at then x else f n

-- the words after a change, and after several
abbrev pub changed : LogicalWords → Change → LogicalWords
changed w c = record w { value = put w.value c.word c.new }

abbrev pub changed_all : LogicalWords → List Change → LogicalWords
changed_all w [] = w
changed_all w (c ∷ cs) = changed_all (changed w c) cs

-- the words after a node was written
abbrev pub with_node : LogicalWords → NewNode → LogicalWords
with_node w n = record {
  shape = w.shape;
  value = put w.value (address w.shape (node_next n.node)) n.next;
  key_of = put w.key_of n.node n.key;
  value_of_node = put w.value_of_node n.node n.value;
}

-- the heap after a node was written and placed, and after several
abbrev pub after_node : LogicalHeap → NewNode → LogicalHeap
after_node h n = record { words = with_node h.words n; placed = put h.placed n.node (Some n.structure) }

abbrev pub after_nodes : LogicalHeap → List NewNode → LogicalHeap
after_nodes h [] = h
after_nodes h (n ∷ ns) = after_nodes (after_node h n) ns

-- a node is placed
abbrev pub IsPlaced : LogicalHeap → ℕ → Type 0
IsPlaced h node = (s : Structure) × (h.placed node ≡ Some s)

-- the word is the next word of no node but a placed one
abbrev pub IsNoUnplacedNext : LogicalHeap → (word : ℕ) → Type 0
IsNoUnplacedNext h word = (node : ℕ) → IsNode h.words.shape node → word ≡ address h.words.shape (node_next node) → IsPlaced h node

-- two heaps have the same placed nodes, and differ at most in words of nodes that aren't placed
pub record AgreeWherePlaced (h k : LogicalHeap) : Type 0 where
  pub shape : k.words.shape ≡ h.words.shape
  pub placed : (node : ℕ) → k.placed node ≡ h.placed node
  pub value : (word : ℕ) → IsCounted h.words.shape word → IsNoUnplacedNext h word → k.words.value word ≡ h.words.value word
  pub key_of : (node : ℕ) → IsPlaced h node → k.words.key_of node ≡ h.words.key_of node
  pub value_of_node : (node : ℕ) → IsPlaced h node → k.words.value_of_node node ≡ h.words.value_of_node node
