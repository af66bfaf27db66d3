-- Ranks that rise by one along links, also in what a transaction sees that can no longer commit: it sees old values in
-- words that it recorded or changed, and all else as it is, so its view is no valid heap.
use Rattle.std.specs.Prelude.{◌≡◌, ◌<◌, ◌⊎◌, ℕ, suc, List, All, Some}
use Rattle.md_words.specs.Content.{value_of}
use Rattle.md_words.specs.Layout.{address, node_count}
use Rattle.md_words.specs.Place.{node_next, queue_head, queue_tail}
use Rattle.md_machine.specs.declared.attempt.Read.{Read}
use Rattle.md_machine.specs.declared.attempt.Write.{Write}
use Rattle.md_machine.specs.declared.certificate.Certificate.{Certificate}
use Rattle.md_machine.specs.declared.certificate.TidyChange.{TidyChange}
use Rattle.md_machine.specs.Certified.{AllStandBy, TidiesStandBy, after_tidies, after_wholes, as_found, first_content}
use Rattle.md_machine.specs.LogicalHeap.{LogicalHeap, next_of}
use Rattle.md_machine.specs.Meaning.{Meaning, StandsBy, TidyStandsBy, after_certificate, after_tidy}
use Rattle.md_machine.specs.SeesNodes.{SeesNodes}
use Rattle.md_queue_law.specs.QueueShape.{link, head_of, tail_of, IsOf, NamesOneOf}

-- a value is 0, or names the node of the queue with this rank
abbrev pub NamesRank : LogicalHeap → (queue rank value : ℕ) → Type 0
NamesRank h queue rank value =
    (value ≡ 0) ⊎ ((node : ℕ) × IsOf h queue node × (value ≡ link node) × (h.words.key_of node ≡ rank))

-- the links of a queue: head and tail name nodes of the queue, each next word is 0 or names a node of the next rank,
-- and below a rank there are all lower ones
pub record RanksLink (h : LogicalHeap) (queue : ℕ) : Type 0 where
  pub head : NamesOneOf h queue (head_of h.words queue)
  pub tail : NamesOneOf h queue (tail_of h.words queue)
  pub next : (node : ℕ) → IsOf h queue node → NamesRank h queue (suc (h.words.key_of node)) (next_of h.words node)
  pub filled : (node rank : ℕ) → IsOf h queue node → h.words.key_of node ≡ suc rank
      → (lower : ℕ) × IsOf h queue lower × (h.words.key_of lower ≡ rank)

-- ranks rise in what a transaction sees of a heap, and in the heap as it is
pub record QueueRises (own h : LogicalHeap) (queue : ℕ) : Type 0 where
  pub nodes : SeesNodes own h
  pub seen : RanksLink own queue
  pub there : RanksLink h queue

-- the contents in which a transaction found words of a queue first name nodes of the queue, of the next rank
pub record FoundRanks (reads : List Read) (writes : List Write) (h : LogicalHeap) (queue : ℕ) : Type 0 where
  pub head : (content : ℕ) → first_content reads writes (address h.words.shape (queue_head queue)) ≡ Some content
      → NamesOneOf h queue (value_of content)
  pub tail : (content : ℕ) → first_content reads writes (address h.words.shape (queue_tail queue)) ≡ Some content
      → NamesOneOf h queue (value_of content)
  pub next : (node content : ℕ) → IsOf h queue node
      → first_content reads writes (address h.words.shape (node_next node)) ≡ Some content
      → NamesRank h queue (suc (h.words.key_of node)) (value_of content)

module _ (M : Meaning) where
  -- a certificate that stands by what a transaction sees leaves ranks rising, whatever else it changes, and so does a
  -- tidy change
  abbrev pub CertificatesRise : Type 0
  CertificatesRise = (own h : LogicalHeap) (queue : ℕ) (c : Certificate)
      → queue < h.words.shape.queues → M.certifies h.words.shape c → StandsBy own h c → QueueRises own h queue
      → QueueRises (after_certificate own c) (after_certificate h c) queue

  abbrev pub TidyChangesRise : Type 0
  TidyChangesRise = (own h : LogicalHeap) (queue : ℕ) (t : TidyChange)
      → queue < h.words.shape.queues → M.tidies h.words.shape t → TidyStandsBy own h t → QueueRises own h queue
      → QueueRises (after_tidy own t) (after_tidy h t) queue

  -- ranks rise in a queue of a valid heap, and in what a transaction sees of it that found words with rising ranks
  abbrev pub RanksRiseAtFirst : Type 0
  RanksRiseAtFirst = (h : LogicalHeap) (queue : ℕ) (reads : List Read) (writes : List Write)
      → M.valid h → queue < h.words.shape.queues → FoundRanks reads writes h queue
      → QueueRises (as_found reads writes h) h queue

  -- and so they do along all that its certificates and tidy changes leave, one after another
  abbrev pub RanksRiseAlong : Type 0
  RanksRiseAlong = (own h : LogicalHeap) (queue : ℕ) (cs : List Certificate) → queue < h.words.shape.queues
      → All (M.certifies h.words.shape) cs → All (λ c. All (M.tidies h.words.shape) c.tidy) cs → AllStandBy own h cs
      → QueueRises own h queue → QueueRises (after_wholes own cs) (after_wholes h cs) queue

  abbrev pub RanksRiseTidied : Type 0
  RanksRiseTidied = (own h : LogicalHeap) (queue : ℕ) (ts : List TidyChange) → queue < h.words.shape.queues
      → All (M.tidies h.words.shape) ts → TidiesStandBy own h ts → QueueRises own h queue
      → QueueRises (after_tidies own ts) (after_tidies h ts) queue

-- so there are no more ranks than nodes, in what it sees too
abbrev pub SeenRanksFit : Type 0
SeenRanksFit = (own h : LogicalHeap) (queue node : ℕ) → QueueRises own h queue → IsOf own queue node
    → own.words.key_of node < node_count h.words.shape
