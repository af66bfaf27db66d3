-- What a theory says of heaps, and the laws that it keeps.
use Rattle.std.specs.Prelude.{◌≡◌, ◌⊎◌, ℕ, None, All}
use Rattle.md_words.specs.declared.shape.Shape.{Shape}
use Rattle.md_words.specs.Link.{linked_node}
use Rattle.md_words.specs.PlaceAt.{IsCounted}
use Rattle.md_history.specs.State.{State, answer, after}
use Rattle.md_machine.specs.declared.certificate.Certificate.{Certificate}
use Rattle.md_machine.specs.declared.certificate.TidyChange.{TidyChange}
use Rattle.md_machine.specs.declared.certificate.Fact.{Fact}
use Rattle.md_machine.specs.LogicalHeap.{AgreeWherePlaced, Holds, IsNoUnplacedNext, IsPlaced, LogicalHeap, LogicalWords, after_nodes, changed, changed_all}

-- which heaps are valid, the state of their words, which certificates and tidy changes a shape has, and which of its
-- counted words are links: words whose value names a node
pub record Meaning : Type 1 where
  pub valid : LogicalHeap → Type 0
  pub state : LogicalWords → State
  pub certifies : Shape → Certificate → Type 0
  pub tidies : Shape → TidyChange → Type 0
  pub links : Shape → (word : ℕ) → Type 0

-- a tidy change stands in a heap, its old value being that of a word of another one: its facts hold, and its new nodes
-- aren't placed
pub record TidyStandsBy (own h : LogicalHeap) (t : TidyChange) : Type 0 where
  pub old : own.words.value t.change.word ≡ t.change.old
  pub facts : All (Holds h) t.facts
  pub fresh : All (λ n. h.placed n.node ≡ None) t.nodes

-- it stands in a heap, with all that it names
abbrev pub TidyStands : LogicalHeap → TidyChange → Type 0
TidyStands h t = TidyStandsBy h h t

-- the heap that it leaves
abbrev pub after_tidy : LogicalHeap → TidyChange → LogicalHeap
after_tidy h t = after_nodes (record { words = changed h.words t.change; placed = h.placed }) t.nodes

-- a certificate, past its tidy changes, stands in a heap, what it recorded and its old values being those of words of
-- another one: its facts hold, and its new nodes aren't placed
pub record StandsBy (own h : LogicalHeap) (c : Certificate) : Type 0 where
  pub recorded : All (λ r. own.words.value r.word ≡ r.value) c.recorded
  pub old : All (λ change. own.words.value change.word ≡ change.old) c.changes
  pub facts : All (Holds h) c.facts
  pub fresh : All (λ n. h.placed n.node ≡ None) c.nodes

-- it stands in a heap, with all that it names
abbrev pub Stands : LogicalHeap → Certificate → Type 0
Stands h c = StandsBy h h c

-- the heap that it leaves
abbrev pub after_certificate : LogicalHeap → Certificate → LogicalHeap
after_certificate h c = after_nodes (record { words = changed_all h.words c.changes; placed = h.placed }) c.nodes

-- each fact that held still holds
abbrev pub KeepsFacts : LogicalHeap → LogicalHeap → Type 0
KeepsFacts h k = (f : Fact) → Holds h f → Holds k f

-- a valid heap, with this state, that keeps the facts of another
pub record Follows (M : Meaning) (h : LogicalHeap) (s : State) (k : LogicalHeap) : Type 0 where
  pub valid : M.valid k
  pub state : M.state k.words ≡ s
  pub facts : KeepsFacts h k

-- a value names no node, or a placed one
abbrev pub NamesPlaced : LogicalHeap → (value : ℕ) → Type 0
NamesPlaced h value = (linked_node value ≡ 0) ⊎ IsPlaced h (linked_node value)

pub record Lawful (M : Meaning) : Type 0 where
  -- a certificate that stands has the operation's reply, and leaves a valid heap with its state
  pub certificate : (h : LogicalHeap) (c : Certificate) → M.valid h → M.certifies h.words.shape c → Stands h c
      → (c.reply ≡ answer (M.state h.words) c.op) × Follows M h (after (M.state h.words) c.op) (after_certificate h c)
  -- a tidy change that stands leaves a valid heap with the same state
  pub tidy : (h : LogicalHeap) (t : TidyChange) → M.valid h → M.tidies h.words.shape t → TidyStands h t
      → Follows M h (M.state h.words) (after_tidy h t)
  -- the words of nodes that aren't placed don't matter
  pub frame : (h k : LogicalHeap) → M.valid h → AgreeWherePlaced h k → M.valid k × (M.state k.words ≡ M.state h.words)
  -- a link that isn't the next word of an unplaced node names no node, or a placed one
  pub link : (h : LogicalHeap) (word : ℕ) → M.valid h → IsCounted h.words.shape word → M.links h.words.shape word → IsNoUnplacedNext h word → NamesPlaced h (h.words.value word)
