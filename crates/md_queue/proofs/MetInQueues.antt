-- What was met in a word of a queue: the head and the tail name nodes of the queue, and the next word of a node of the
-- queue is 0 or names one of the next rank.
use Rattle.std.proofs.Common.{◌≡◌, ◌<◌, ℕ, suc, Some, None, refl, sym, ap, ◌∙◌, subst, inl, inr, ⊎_elim}
use Rattle.std.proofs.lemmas.Bool.{cases_eq}
use Rattle.md_words.specs.declared.shape.Shape.{Shape}
use Rattle.md_words.specs.Layout.{IsNode, address}
use Rattle.md_words.specs.Link.{linked_node}
use Rattle.md_words.specs.Place.{node_next, queue_head, queue_tail}
use Rattle.md_machine.specs.declared.certificate.Fact.{Fact}
use Rattle.md_machine.specs.declared.node.Structure.{Structure}
use Rattle.md_machine.specs.declared.node.Structure.TheVariants.{Queue}
use Rattle.md_machine.specs.LogicalHeap.{LogicalHeap}
use Rattle.md_machine.specs.Meaning.{Meaning}
use Rattle.md_nbtc_law.specs.Known.{WasThere}
use Rattle.md_queue_law.specs.Laws.Words.{linked_node-link}
use Rattle.md_queue_law.specs.QueueCertificates.{has_key}
use Rattle.md_queue_law.specs.QueueMeaning.{HasQueuesOf}
use Rattle.md_queue_law.specs.QueueShape.{IsOf, NamesOneOf, QueueShape, link}
use Rattle.md_queue_law.specs.Rising.{NamesRank}
use Rattle.md_queue_law.proofs.Facts.{ranks_rise}

-- the fact that a node is placed
abbrev pub node_fact : Structure → ℕ → Fact
node_fact structure node = record { node = node; structure = structure; key = None; value = None; next = None }

-- the node that a value names
pub named_node : (h : LogicalHeap) (queue value : ℕ) → NamesOneOf h queue value → IsOf h queue (linked_node value) × (value ≡ link (linked_node value))
named_node h queue value names =
    let same = ap linked_node names.2 ∙ linked_node-link names.0 in
    (subst (IsOf h queue) (sym same) names.1, names.2 ∙ ap link (sym same))

module _ (M : Meaning) (queues : HasQueuesOf M) (h : LogicalHeap) (queue : ℕ) (within : queue < h.words.shape.queues) where
  -- the queue in the heap in which it was met
  queue_then : (word value : ℕ) (was : WasThere M h word value) → QueueShape was.heap queue
  queue_then word value was = queues.stand was.heap was.valid queue (subst (λ (s : Shape). queue < s.queues) (sym was.shape) within)

  -- a node of the queue in that heap is one here, with the same rank
  still_of : (word value : ℕ) (was : WasThere M h word value) (node : ℕ) → IsOf was.heap queue node → IsOf h queue node × (h.words.key_of node ≡ was.heap.words.key_of node)
  still_of word value was node placed =
      let holds = was.facts (has_key queue node (was.heap.words.key_of node)) (record { placed = placed; key = refl; value = tt; next = tt }) in
      (holds.placed, holds.key)

  -- a node whose next word it is was placed then, and is placed
  pub placed_then : (word value : ℕ) (was : WasThere M h word value) (node : ℕ) → IsNode h.words.shape node → word ≡ address h.words.shape (node_next node)
      → (s : Structure) × (was.heap.placed node ≡ Some s) × (h.placed node ≡ Some s)
  placed_then word value was node exists is =
      let placed = was.rooted node (subst (λ (s : Shape). IsNode s node) (sym was.shape) exists) (is ∙ ap (λ (s : Shape). address s (node_next node)) (sym was.shape)) in
      let holds = was.facts (node_fact placed.0 node) (record { placed = placed.1; key = tt; value = tt; next = tt }) in
      (placed.0, placed.1, holds.placed)

  pub met_in_head : (value : ℕ) → WasThere M h (address h.words.shape (queue_head queue)) value → NamesOneOf h queue value
  met_in_head value was =
      let word = address h.words.shape (queue_head queue) in
      let named = (queue_then word value was).head in (
        named.0,
        (still_of word value was named.0 named.1).0,
        sym (ap (λ (s : Shape). was.heap.words.value (address s (queue_head queue))) was.shape ∙ was.is) ∙ named.2,
      )

  pub met_in_tail : (value : ℕ) → WasThere M h (address h.words.shape (queue_tail queue)) value → NamesOneOf h queue value
  met_in_tail value was =
      let word = address h.words.shape (queue_tail queue) in
      let named = (queue_then word value was).tail in (
        named.0,
        (still_of word value was named.0 named.1).0,
        sym (ap (λ (s : Shape). was.heap.words.value (address s (queue_tail queue))) was.shape ∙ was.is) ∙ named.2,
      )

  pub met_in_next : (node value : ℕ) → IsNode h.words.shape node → WasThere M h (address h.words.shape (node_next node)) value → IsOf h queue node
      → NamesRank h queue (suc (h.words.key_of node)) value
  met_in_next node value exists was placed =
      let word = address h.words.shape (node_next node) in
      let root = placed_then word value was node exists refl in
      let now = root.2 in
      let same : root.0 ≡ Queue queue = cc (now, placed) in
      let there = subst (λ s. was.heap.placed node ≡ Some s) same root.1 in
      let is = ap (λ (s : Shape). was.heap.words.value (address s (node_next node))) was.shape ∙ was.is in
      let key = (still_of word value was node there).1 in
      ⊎_elim inl
      (λ some.
      let next = ranks_rise was.heap queue (queue_then word value was) node there (λ zero. some (sym is ∙ zero)) in
      let stays = still_of word value was next.0 next.1 in
      inr (next.0, stays.0, sym is ∙ next.2, stays.1 ∙ next.3 ∙ ap suc (sym key)))
      (cases_eq value 0)
