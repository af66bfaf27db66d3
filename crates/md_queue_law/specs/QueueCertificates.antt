-- The certificates of a queue's operations, and the move of its tail.
use Rattle.std.specs.Prelude.{◌≡◌, ◌<◌, ◌+◌, ◌⊎◌, ℕ, List, [], ◌∷◌, map, length, Some, None}
use Rattle.md_words.specs.declared.shape.Shape.{Shape}
use Rattle.md_words.specs.Place.{queue_head, queue_tail, node_next}
use Rattle.md_words.specs.Layout.{address, IsNode}
use Rattle.md_history.specs.declared.acts.Op.{Op}
use Rattle.md_history.specs.declared.acts.Op.TheVariants.{Enqueue, Dequeue, Front, Line}
use Rattle.md_history.specs.declared.acts.Reply.TheVariants.{Value, Nothing, Line as TheLine}
use Rattle.md_history.specs.State.{line_of}
use Rattle.md_machine.specs.declared.certificate.Certificate.{Certificate}
use Rattle.md_machine.specs.declared.certificate.Change.{Change}
use Rattle.md_machine.specs.declared.certificate.Fact.{Fact}
use Rattle.md_machine.specs.declared.certificate.NewNode.{NewNode}
use Rattle.md_machine.specs.declared.certificate.TidyChange.{TidyChange}
use Rattle.md_machine.specs.declared.certificate.WordValue.{WordValue}
use Rattle.md_machine.specs.declared.node.Structure.TheVariants.{Queue}
use Rattle.md_queue_law.specs.QueueShape.{link}

-- the head's word, and a node's next word, with a value
abbrev pub head_is : Shape → (queue value : ℕ) → WordValue
head_is shape queue value = record { word = address shape (queue_head queue); value = value }

abbrev pub next_is : Shape → (node value : ℕ) → WordValue
next_is shape node value = record { word = address shape (node_next node); value = value }

-- a change of the head, of the tail, and of a node's next word
abbrev pub head_change : Shape → (queue old new : ℕ) → Change
head_change shape queue old new = record { word = address shape (queue_head queue); old = old; new = new }

abbrev pub tail_change : Shape → (queue old new : ℕ) → Change
tail_change shape queue old new = record { word = address shape (queue_tail queue); old = old; new = new }

abbrev pub next_change : Shape → (node old new : ℕ) → Change
next_change shape node old new = record { word = address shape (node_next node); old = old; new = new }

-- a new node of the queue, that names none
abbrev pub new_node : (queue node key value : ℕ) → NewNode
new_node queue node key value = record { node = node; structure = Queue queue; key = key; value = value; next = 0 }

-- a node of the queue has this key, this value, or this next word
abbrev pub has_key : (queue node key : ℕ) → Fact
has_key queue node key = record { node = node; structure = Queue queue; key = Some key; value = None; next = None }

abbrev pub has_value : (queue node value : ℕ) → Fact
has_value queue node value = record { node = node; structure = Queue queue; key = None; value = Some value; next = None }

abbrev pub has_next : (queue node next : ℕ) → Fact
has_next queue node next = record { node = node; structure = Queue queue; key = None; value = None; next = Some next }

-- Enqueue: the next word of the last node is changed from 0 to a new node, of the next rank, that names none.
pub record Enqueues (shape : Shape) (queue value : ℕ) (c : Certificate) : Type 0 where
  pub last : ℕ
  pub rank : ℕ
  pub node : ℕ
  pub exists : IsNode shape node
  pub reply : c.reply ≡ Nothing
  pub recorded : c.recorded ≡ []
  pub changes : c.changes ≡ next_change shape last 0 (link node) ∷ []
  pub nodes : c.nodes ≡ new_node queue node (rank + 1) value ∷ []
  pub facts : c.facts ≡ has_key queue last rank ∷ []

-- Dequeue with a value: the head is changed to the node that its node names for good, whose value is the reply. Nothing
-- is recorded: a next word that isn't 0 never changes.
pub record Dequeues (shape : Shape) (queue : ℕ) (c : Certificate) : Type 0 where
  pub dummy : ℕ
  pub first : ℕ
  pub value : ℕ
  pub reply : c.reply ≡ Value (Some value)
  pub recorded : c.recorded ≡ []
  pub changes : c.changes ≡ head_change shape queue (link dummy) (link first) ∷ []
  pub nodes : c.nodes ≡ []
  pub facts : c.facts ≡ has_next queue dummy (link first) ∷ has_value queue first value ∷ []

-- Front with a value: the head is recorded, whose node names another one for good. Nothing is changed.
pub record FindsFirst (shape : Shape) (queue : ℕ) (c : Certificate) : Type 0 where
  pub dummy : ℕ
  pub first : ℕ
  pub value : ℕ
  pub reply : c.reply ≡ Value (Some value)
  pub recorded : c.recorded ≡ head_is shape queue (link dummy) ∷ []
  pub changes : c.changes ≡ []
  pub nodes : c.nodes ≡ []
  pub facts : c.facts ≡ has_next queue dummy (link first) ∷ has_value queue first value ∷ []

-- Dequeue and Front without a value: the head and the next word of its node, which is 0, are recorded.
pub record FindsNone (shape : Shape) (queue : ℕ) (c : Certificate) : Type 0 where
  pub dummy : ℕ
  pub reply : c.reply ≡ Value None
  pub recorded : c.recorded ≡ head_is shape queue (link dummy) ∷ next_is shape dummy 0 ∷ []
  pub changes : c.changes ≡ []
  pub nodes : c.nodes ≡ []
  pub facts : c.facts ≡ []

-- a node that a look along a queue came to, and its value
pub record Seen : Type 0 where
  pub node : ℕ
  pub value : ℕ

-- what a look knows for good of the nodes that it came to, one after another from a node: each is the next one, and has
-- its value
abbrev pub facts_along : (queue node : ℕ) → List Seen → List Fact
facts_along queue node [] = []
facts_along queue node (s ∷ seen) = has_next queue node (link s.node) ∷ has_value queue s.node s.value ∷ facts_along queue s.node seen

-- the last node seen
abbrev pub last_seen : (node : ℕ) → List Seen → ℕ
last_seen node [] = node
last_seen node (s ∷ seen) = last_seen s.node seen

-- the look ends when it has seen as many values as were asked for, or at a next word that is 0, which is recorded
pub record LooksEnough (n : ℕ) (seen : List Seen) (ending : List WordValue) : Type 0 where
  pub all : length seen ≡ n
  pub is : ending ≡ []

pub record LooksToEnd (shape : Shape) (dummy n : ℕ) (seen : List Seen) (ending : List WordValue) : Type 0 where
  pub fewer : length seen < n
  pub is : ending ≡ next_is shape (last_seen dummy seen) 0 ∷ []

-- Line: the head is recorded. From its node the look goes along next words that never change, and records a last one,
-- which is 0, if it comes to the end.
pub record LooksAlong (shape : Shape) (queue n : ℕ) (c : Certificate) : Type 0 where
  pub dummy : ℕ
  pub seen : List Seen
  pub ending : List WordValue
  pub ends : LooksEnough n seen ending ⊎ LooksToEnd shape dummy n seen ending
  pub reply : c.reply ≡ TheLine (line_of (map (λ s. s.value) seen))
  pub recorded : c.recorded ≡ head_is shape queue (link dummy) ∷ ending
  pub changes : c.changes ≡ []
  pub nodes : c.nodes ≡ []
  pub facts : c.facts ≡ facts_along queue dummy seen

-- the certificates of one queue's operations; other operations have none
abbrev pub CertifiesOp : Shape → Op → Certificate → Type 0
CertifiesOp shape (Enqueue queue value) c = (queue < shape.queues) × Enqueues shape queue value c
CertifiesOp shape (Dequeue queue) c = (queue < shape.queues) × (Dequeues shape queue c ⊎ FindsNone shape queue c)
CertifiesOp shape (Front queue) c = (queue < shape.queues) × (FindsFirst shape queue c ⊎ FindsNone shape queue c)
CertifiesOp shape (Line queue n) c = (queue < shape.queues) × LooksAlong shape queue n c
CertifiesOp shape _ c = ⊥

abbrev pub CertifiesQueue : Shape → Certificate → Type 0
CertifiesQueue shape c = CertifiesOp shape c.op c

-- The tail is moved from a node of its queue to the node that this one names for good.
pub record MovesTail (shape : Shape) (t : TidyChange) : Type 0 where
  pub queue : ℕ
  pub from : ℕ
  pub to : ℕ
  pub within : queue < shape.queues
  pub change : t.change ≡ tail_change shape queue (link from) (link to)
  pub nodes : t.nodes ≡ []
  pub facts : t.facts ≡ has_next queue from (link to) ∷ []
