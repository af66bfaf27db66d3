-- Keys that rise along links, also in what a transaction sees that can no longer commit: it sees old values in words
-- that it recorded or changed, and all else as it is, so its view is no valid heap.
use Rattle.std.specs.Prelude.{◌≡◌, ◌<◌, ℕ, false, List, All, Some}
use Rattle.md_words.specs.Content.{value_of}
use Rattle.md_words.specs.Link.{is_marked}
use Rattle.md_machine.specs.declared.attempt.Read.{Read}
use Rattle.md_machine.specs.declared.attempt.Write.{Write}
use Rattle.md_machine.specs.declared.certificate.Certificate.{Certificate}
use Rattle.md_machine.specs.declared.certificate.TidyChange.{TidyChange}
use Rattle.md_machine.specs.declared.node.Structure.{Structure}
use Rattle.md_machine.specs.declared.node.Structure.TheVariants.{Bucket}
use Rattle.md_machine.specs.Certified.{AllStandBy, TidiesStandBy, after_tidies, after_wholes, as_found, first_content}
use Rattle.md_machine.specs.LogicalHeap.{LogicalHeap, next_of}
use Rattle.md_machine.specs.Meaning.{Meaning, StandsBy, TidyStandsBy, after_certificate, after_tidy}
use Rattle.md_machine.specs.SeesNodes.{SeesNodes}
use Rattle.md_list_law.specs.ListShape.{head_word, next_word, IsIn, IsRank, Names, NamesOnward}

-- the links of a list: its head is unmarked and names no node or one of the list, and keys rise along the next words of
-- the list's nodes
pub record LinksRise (h : LogicalHeap) (list : Structure) (head : ℕ) : Type 0 where
  pub unmarked : is_marked (h.words.value head) ≡ false
  pub first : Names h list (h.words.value head)
  pub rises : (node : ℕ) → IsIn h list node → NamesOnward h list (h.words.key_of node) (next_of h.words node)

-- keys rise in what a transaction sees of a heap, and in the heap as it is, whose nodes have ranks
pub record BothRise (own h : LogicalHeap) (list : Structure) (head : ℕ) : Type 0 where
  pub nodes : SeesNodes own h
  pub seen : LinksRise own list head
  pub there : LinksRise h list head
  pub rank : ℕ → ℕ
  pub ranks : IsRank h list rank

-- so it is in a bucket
abbrev pub BucketRises : (own h : LogicalHeap) → (map bucket : ℕ) → Type 0
BucketRises own h map bucket = BothRise own h (Bucket map bucket) (head_word h.words.shape map bucket)

-- the contents in which a transaction found words of a bucket first name nodes with rising keys
pub record FoundRising (reads : List Read) (writes : List Write) (h : LogicalHeap) (map bucket : ℕ) : Type 0 where
  pub head : (content : ℕ) → first_content reads writes (head_word h.words.shape map bucket) ≡ Some content
      → (is_marked (value_of content) ≡ false) × Names h (Bucket map bucket) (value_of content)
  pub next : (node content : ℕ) → IsIn h (Bucket map bucket) node
      → first_content reads writes (next_word h.words.shape node) ≡ Some content
      → NamesOnward h (Bucket map bucket) (h.words.key_of node) (value_of content)

module _ (M : Meaning) where
  -- a certificate that stands by what a transaction sees leaves keys rising, whatever else it changes, and so does a
  -- tidy change
  abbrev pub CertificatesRise : Type 0
  CertificatesRise = (own h : LogicalHeap) (map bucket : ℕ) (c : Certificate)
      → map < h.words.shape.maps → bucket < h.words.shape.buckets
      → M.certifies h.words.shape c → StandsBy own h c → BucketRises own h map bucket
      → BucketRises (after_certificate own c) (after_certificate h c) map bucket

  abbrev pub TidyChangesRise : Type 0
  TidyChangesRise = (own h : LogicalHeap) (map bucket : ℕ) (t : TidyChange)
      → map < h.words.shape.maps → bucket < h.words.shape.buckets
      → M.tidies h.words.shape t → TidyStandsBy own h t → BucketRises own h map bucket
      → BucketRises (after_tidy own t) (after_tidy h t) map bucket

  -- keys rise in a bucket of a valid heap, and in what a transaction sees of it that found words with rising keys
  abbrev pub RisesAtFirst : Type 0
  RisesAtFirst = (h : LogicalHeap) (map bucket : ℕ) (reads : List Read) (writes : List Write)
      → M.valid h → map < h.words.shape.maps → bucket < h.words.shape.buckets → FoundRising reads writes h map bucket
      → BucketRises (as_found reads writes h) h map bucket

  -- and so they do along all that its certificates and tidy changes leave, one after another
  abbrev pub RisesAlong : Type 0
  RisesAlong = (own h : LogicalHeap) (map bucket : ℕ) (cs : List Certificate)
      → map < h.words.shape.maps → bucket < h.words.shape.buckets
      → All (M.certifies h.words.shape) cs → All (λ c. All (M.tidies h.words.shape) c.tidy) cs → AllStandBy own h cs
      → BucketRises own h map bucket → BucketRises (after_wholes own cs) (after_wholes h cs) map bucket

  abbrev pub RisesTidied : Type 0
  RisesTidied = (own h : LogicalHeap) (map bucket : ℕ) (ts : List TidyChange)
      → map < h.words.shape.maps → bucket < h.words.shape.buckets
      → All (M.tidies h.words.shape) ts → TidiesStandBy own h ts → BucketRises own h map bucket
      → BucketRises (after_tidies own ts) (after_tidies h ts) map bucket
