-- What a theory that contains queues tells of their nodes and words, in every valid heap.
use Rattle.std.specs.Prelude.{◌≡◌, ◌≢◌, ◌<◌, ◌≤◌, ◌++◌, ℕ, suc, List, [], ◌∷◌}
use Rattle.md_words.specs.Layout.{IsNode, node_count}
use Rattle.md_machine.specs.LogicalHeap.{LogicalHeap, next_of}
use Rattle.md_machine.specs.Meaning.{Meaning}
use Rattle.md_queue_law.specs.QueueShape.{link, head_of, tail_of, IsOf, NamesOneOf}
use Rattle.md_queue_law.specs.QueueCertificates.{Seen, facts_along, has_next, has_value, last_seen}

-- a queue of a valid heap
pub record IsQueueIn (M : Meaning) (h : LogicalHeap) (queue : ℕ) : Type 0 where
  pub valid : M.valid h
  pub within : queue < h.words.shape.queues

module _ (M : Meaning) where
  -- the head and the tail name nodes of the queue
  abbrev pub HeadNamesOne : Type 0
  HeadNamesOne = (h : LogicalHeap) (queue : ℕ) → IsQueueIn M h queue → NamesOneOf h queue (head_of h.words queue)

  abbrev pub TailNamesOne : Type 0
  TailNamesOne = (h : LogicalHeap) (queue : ℕ) → IsQueueIn M h queue → NamesOneOf h queue (tail_of h.words queue)

  -- a next word that isn't 0 names the node of the next rank
  abbrev pub RanksRise : Type 0
  RanksRise = (h : LogicalHeap) (queue node : ℕ) → IsQueueIn M h queue → IsOf h queue node → next_of h.words node ≢ 0
      → (next : ℕ) × IsOf h queue next × (next_of h.words node ≡ link next) × (h.words.key_of next ≡ suc (h.words.key_of node))

  -- the last node alone has the next word 0: no node of the queue has a greater rank
  abbrev pub LastAlone : Type 0
  LastAlone = (h : LogicalHeap) (queue node other : ℕ) → IsQueueIn M h queue → IsOf h queue node → IsOf h queue other → next_of h.words node ≡ 0
      → (h.words.key_of other ≤ h.words.key_of node) × (next_of h.words other ≡ 0 → other ≡ node)

  -- a rank has one node
  abbrev pub RanksDiffer : Type 0
  RanksDiffer = (h : LogicalHeap) (queue node other : ℕ) → IsQueueIn M h queue → IsOf h queue node → IsOf h queue other
      → h.words.key_of node ≡ h.words.key_of other → node ≡ other

  -- a node of the queue is a node of the field, and there are no more ranks than nodes
  abbrev pub RanksFit : Type 0
  RanksFit = (h : LogicalHeap) (queue node : ℕ) → IsQueueIn M h queue → IsOf h queue node
      → IsNode h.words.shape node × (h.words.key_of node < node_count h.words.shape)

-- A look along a queue goes on: when it comes to one more node, it is known to be the next one of the last one seen, and
-- has its value.
abbrev pub LookGoesOn : Type 0
LookGoesOn = (queue node : ℕ) (seen : List Seen) (s : Seen)
    → (facts_along queue node (seen ++ s ∷ []) ≡ facts_along queue node seen ++ has_next queue (last_seen node seen) (link s.node) ∷ has_value queue s.node s.value ∷ [])
    × (last_seen node (seen ++ s ∷ []) ≡ s.node)
