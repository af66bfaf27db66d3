-- Heaps that agree on the nodes of a structure, and heaps that keep what is known of placed nodes.
use Rattle.std.proofs.Common.{◌≡◌, ℕ, zero, suc, ◌+◌, ◌-◌, ◌<◌, ◌∷◌, refl, sym, ap, ◌∙◌, subst, Some, arith}
use Rattle.std.proofs.lemmas.Option.{IfSome_then}
use Rattle.std.specs.Prelude.{IsTrue}
use Rattle.md_words.specs.Layout.{node_count, IsNode}
use Rattle.md_words.specs.Link.{linked_node}
use Rattle.md_machine.specs.declared.node.Structure.{Structure}
use Rattle.md_machine.specs.declared.node.Structure.TheVariants.{Queue}
use Rattle.md_machine.specs.LogicalHeap.{LogicalWords, LogicalHeap, next_of, is_settled}
use Rattle.md_machine.specs.Meaning.{KeepsFacts}
use Rattle.md_queue_law.specs.QueueShape.{link, head_of, tail_of, IsOf, StandInLine, QueueShape}
use Rattle.md_queue_law.specs.QueueValues.{values_after, queue_values}
use Rattle.md_queue_law.specs.Laws.Words.{linked_node-link}
use Rattle.md_queue_law.specs.Laws.Walk.{ranked_values, walk-line, line_fits}

-- each placed node is a node of the field
abbrev pub PlacedExist : LogicalHeap → Type 0
PlacedExist h = (node : ℕ) (s : Structure) → h.placed node ≡ Some s → IsNode h.words.shape node

-- a placed node stays, with its key and value, and with its next word if that is settled
pub record Stays (h k : LogicalHeap) (node : ℕ) (s : Structure) : Type 0 where
  pub placed : k.placed node ≡ Some s
  pub key_of : k.words.key_of node ≡ h.words.key_of node
  pub value_of_node : k.words.value_of_node node ≡ h.words.value_of_node node
  pub next : (v : ℕ) → next_of h.words node ≡ v → IsTrue (is_settled s v) → next_of k.words node ≡ v

pub keeps_facts : (h k : LogicalHeap) → ((node : ℕ) (s : Structure) → h.placed node ≡ Some s → Stays h k node s) → KeepsFacts h k
keeps_facts h k stay f holds = let s = stay f.node f.structure holds.placed in record {
  placed = s.placed;
  key = IfSome_then f.key holds.key (λ x e. s.key_of ∙ e);
  value = IfSome_then f.value holds.value (λ x e. s.value_of_node ∙ e);
  next = IfSome_then f.next holds.next (λ v e. (s.next v e.0 e.1, e.1));
}

-- two heaps place the same nodes in a structure, with the same words
pub record NodesAgree (h k : LogicalHeap) (s : Structure) : Type 0 where
  pub shape : k.words.shape ≡ h.words.shape
  pub placed : (node : ℕ) → h.placed node ≡ Some s → k.placed node ≡ Some s
  pub only : (node : ℕ) → k.placed node ≡ Some s → h.placed node ≡ Some s
  pub key_of : (node : ℕ) → h.placed node ≡ Some s → k.words.key_of node ≡ h.words.key_of node
  pub value_of_node : (node : ℕ) → h.placed node ≡ Some s → k.words.value_of_node node ≡ h.words.value_of_node node
  pub next : (node : ℕ) → h.placed node ≡ Some s → next_of k.words node ≡ next_of h.words node

pub agree_itself : (h : LogicalHeap) (s : Structure) → NodesAgree h h s
agree_itself h s = record {
  shape = refl;
  placed = λ node at. at;
  only = λ node at. at;
  key_of = λ node at. refl;
  value_of_node = λ node at. refl;
  next = λ node at. refl;
}

-- a line stands in both
pub line_agrees : (h k : LogicalHeap) (queue count : ℕ) (node_of : ℕ → ℕ) → NodesAgree h k (Queue queue)
    → StandInLine h queue count node_of → StandInLine k queue count node_of
line_agrees h k queue count node_of a line = record {
  exist = λ node of. subst (λ s. IsNode s node) (sym a.shape) (line.exist node (a.only node of));
  ranked = λ node of. let was = a.only node of in let r = line.ranked node was in
      (subst (λ n. n < count) (sym (a.key_of node was)) r.0, ap node_of (a.key_of node was) ∙ r.1);
  placed = λ rank below. let p = line.placed rank below in (a.placed (node_of rank) p.0, a.key_of (node_of rank) p.0 ∙ p.1);
  next = λ rank below. a.next (node_of rank) (line.placed rank (omega arith)).0 ∙ line.next rank below;
  last = λ rank e. a.next (node_of rank) (line.placed rank (omega arith)).0 ∙ line.last rank e;
}

-- two heaps agree on a queue
pub record QueueAgrees (h k : LogicalHeap) (queue : ℕ) : Type 0 where
  pub nodes : NodesAgree h k (Queue queue)
  pub head : head_of k.words queue ≡ head_of h.words queue
  pub tail : tail_of k.words queue ≡ tail_of h.words queue

pub shape_agrees : (h k : LogicalHeap) (queue : ℕ) → QueueAgrees h k queue → QueueShape h queue → QueueShape k queue
shape_agrees h k queue a s = record {
  count = s.count;
  node_of = s.node_of;
  line = line_agrees h k queue s.count s.node_of a.nodes s.line;
  head = (s.head.0, a.nodes.placed s.head.0 s.head.1, a.head ∙ s.head.2);
  tail = (s.tail.0, a.nodes.placed s.tail.0 s.tail.1, a.tail ∙ s.tail.2);
}

-- the values of a queue are those of the ranks past its head's
pub queue_values-line : (h : LogicalHeap) (queue count : ℕ) (node_of : ℕ → ℕ) (node rank left : ℕ) → StandInLine h queue count node_of → IsOf h queue node
    → h.words.key_of node ≡ rank → head_of h.words queue ≡ link node → suc rank + left ≡ count
    → queue_values h.words queue ≡ ranked_values h.words node_of (suc rank) left
queue_values-line h queue count node_of node rank left line of key named e =
    let at : node ≡ node_of rank = sym (line.ranked node of).1 ∙ ap node_of key in
    let fits = line_fits h queue count node_of line in
    ap (values_after h.words (node_count h.words.shape)) (ap linked_node named ∙ linked_node-link node ∙ at)
    ∙ walk-line h queue count node_of line left rank (node_count h.words.shape) e (omega arith)

-- the values of ranks whose nodes have the same values
pub ranked_values-same : (w v : LogicalWords) (f g : ℕ → ℕ) (rank left : ℕ)
    → ((r : ℕ) → r < rank + left → v.value_of_node (g r) ≡ w.value_of_node (f r)) → ranked_values v g rank left ≡ ranked_values w f rank left
ranked_values-same w v f g rank zero same = refl
ranked_values-same w v f g rank (suc left) same =
    ap (λ x. x ∷ ranked_values v g (suc rank) left) (same rank (omega arith))
    ∙ ap (λ xs. w.value_of_node (f rank) ∷ xs) (ranked_values-same w v f g (suc rank) left (λ r b. same r (omega arith)))

-- how many ranks lie past a node's
pub past : (h : LogicalHeap) (queue count : ℕ) (node_of : ℕ → ℕ) → StandInLine h queue count node_of
    → (node : ℕ) → IsOf h queue node → (left : ℕ) × (suc (h.words.key_of node) + left ≡ count)
past h queue count node_of line node of = let below = (line.ranked node of).0 in (count - suc (h.words.key_of node), omega arith)

pub values_agree : (h k : LogicalHeap) (queue : ℕ) → NodesAgree h k (Queue queue) → head_of k.words queue ≡ head_of h.words queue → QueueShape h queue
    → queue_values k.words queue ≡ queue_values h.words queue
values_agree h k queue a head s =
    let node = s.head.0 in let of = s.head.1 in
    let rest = past h queue s.count s.node_of s.line node of in
    queue_values-line k queue s.count s.node_of node (h.words.key_of node) rest.0 (line_agrees h k queue s.count s.node_of a s.line) (a.placed node of)
    (a.key_of node of) (head ∙ s.head.2) rest.1
    ∙ ranked_values-same h.words k.words s.node_of s.node_of (suc (h.words.key_of node)) rest.0
    (λ r b. let e = rest.1 in a.value_of_node (s.node_of r) (s.line.placed r (omega arith)).0)
    ∙ sym (queue_values-line h queue s.count s.node_of node (h.words.key_of node) rest.0 s.line of refl s.head.2 rest.1)
