-- When words are a store: the hash tables of all maps, and all queues.
use Rattle.std.specs.Prelude.{◌≡◌, ◌⊎◌, ◌<◌, ℕ, Some}
use Rattle.md_words.specs.declared.shape.Shape.{Shape}
use Rattle.md_words.specs.PlaceAt.{IsCounted}
use Rattle.md_history.specs.State.{State}
use Rattle.md_machine.specs.declared.node.Structure.{Structure}
use Rattle.md_machine.specs.declared.node.Structure.TheVariants.{Queue}
use Rattle.md_machine.specs.LogicalHeap.{LogicalWords, LogicalHeap}
use Rattle.md_machine.specs.Meaning.{Meaning}
use Rattle.md_hash_law.specs.HashTable.{AreBuckets, IsBucketOf, maps_of, IsTableCertificate, IsTableUnlink}
use Rattle.md_queue_law.specs.QueueShape.{QueuesStand}
use Rattle.md_queue_law.specs.QueueValues.{queue_lists}
use Rattle.md_queue_law.specs.QueueCertificates.{CertifiesQueue, MovesTail}

-- a structure is one of the shape's queues
abbrev pub IsQueueOf : Shape → Structure → Type 0
IsQueueOf shape s = (queue : ℕ) × (queue < shape.queues) × (s ≡ Queue queue)

-- each bucket is a list, each queue has its shape, and every placed node is of one of them
pub record IsStore (h : LogicalHeap) : Type 0 where
  pub buckets : AreBuckets h
  pub queues : QueuesStand h
  pub alone : (node : ℕ) (s : Structure) → h.placed node ≡ Some s → IsBucketOf h.words.shape s ⊎ IsQueueOf h.words.shape s

abbrev pub state_of_store : LogicalWords → State
state_of_store w = record { maps = maps_of w; queues = queue_lists w }

-- the certificates and the tidy changes of both; every counted word names nodes
abbrev pub store : Meaning
store = record {
  valid = IsStore;
  state = state_of_store;
  certifies = λ shape c. IsTableCertificate shape c ⊎ CertifiesQueue shape c;
  tidies = λ shape t. IsTableUnlink shape t ⊎ MovesTail shape t;
  links = λ shape word. IsCounted shape word;
}
