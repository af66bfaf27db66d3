-- Queues alone as a theory, and what a theory that contains queues says of them.
use Rattle.std.specs.Prelude.{◌≡◌, ◌<◌, ℕ, Bool, true, false, replicate, Some, IsTrue}
use Rattle.std.specs.FinMap as fin
use Rattle.md_words.specs.declared.shape.Shape.{Shape}
use Rattle.md_words.specs.Place.{Place, queue_head, queue_tail, node_next}
use Rattle.md_words.specs.PlaceAt.{place_at}
use Rattle.md_words.specs.Layout.{address, Exists, IsNode}
use Rattle.md_history.specs.State.{queue_at}
use Rattle.md_machine.specs.declared.certificate.Certificate.{Certificate}
use Rattle.md_machine.specs.declared.certificate.TidyChange.{TidyChange}
use Rattle.md_machine.specs.declared.node.Structure.{Structure}
use Rattle.md_machine.specs.declared.node.Structure.TheVariants.{Queue}
use Rattle.md_machine.specs.LogicalHeap.{IsPlaced, LogicalHeap}
use Rattle.md_machine.specs.Meaning.{Meaning}
use Rattle.md_queue_law.specs.QueueShape.{QueuesStand}
use Rattle.md_queue_law.specs.QueueValues.{queue_values, queue_lists}
use Rattle.md_queue_law.specs.QueueCertificates.{CertifiesQueue, MovesTail}
use Rattle.md_queue_law.specs.Rising.{CertificatesRise, TidyChangesRise}

-- a heap of queues alone: each queue has its shape, and each placed node is of a queue of the field
pub record IsQueueHeap (h : LogicalHeap) : Type 0 where
  pub stand : QueuesStand h
  pub only : (node : ℕ) (s : Structure) → h.placed node ≡ Some s → (queue : ℕ) × (queue < h.words.shape.queues) × (s ≡ Queue queue)

-- heads, tails and next words name nodes
abbrev pub is_queue_link : Place → Bool
is_queue_link (queue_head _) = true
is_queue_link (queue_tail _) = true
is_queue_link (node_next _) = true
is_queue_link _ = false

-- queues alone; the maps are empty, and no certificate speaks of them
abbrev pub queue_meaning : Meaning
queue_meaning = record {
  valid = IsQueueHeap;
  state = λ w. record { maps = replicate w.shape.maps fin.empty; queues = queue_lists w };
  certifies = CertifiesQueue;
  tidies = MovesTail;
  links = λ shape word. IsTrue (is_queue_link (place_at shape word));
}

-- A theory contains queues: in a valid heap each queue has its shape and its values, and placed nodes are nodes of the
-- field. The certificates of queues are certificates of the theory, a move of a tail is tidy, and heads, tails and next
-- words are links. And ranks rise by one along the links of a queue after each of the theory's certificates and tidy
-- changes, also in what a doomed transaction sees.
pub record HasQueuesOf (M : Meaning) : Type 0 where
  pub stand : (h : LogicalHeap) → M.valid h → QueuesStand h
  pub values : (h : LogicalHeap) (queue : ℕ) → M.valid h → queue < h.words.shape.queues
      → queue_at (M.state h.words) queue ≡ queue_values h.words queue
  pub nodes : (h : LogicalHeap) (node : ℕ) → M.valid h → IsPlaced h node → IsNode h.words.shape node
  pub certifies : (shape : Shape) (c : Certificate) → CertifiesQueue shape c → M.certifies shape c
  pub tidies : (shape : Shape) (t : TidyChange) → MovesTail shape t → M.tidies shape t
  pub links : (shape : Shape) (p : Place) → Exists shape p → IsTrue (is_queue_link p) → M.links shape (address shape p)
  pub rising : CertificatesRise M
  pub rising_tidied : TidyChangesRise M
