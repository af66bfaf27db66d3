-- When a theory contains the lists of a hash table: a list for each bucket of each map.
use Rattle.std.specs.Prelude.{◌<◌, ℕ}
use Rattle.md_words.specs.declared.shape.Shape.{Shape}
use Rattle.md_words.specs.Layout.{bucket_of, IsNode}
use Rattle.md_machine.specs.declared.certificate.Certificate.{Certificate}
use Rattle.md_machine.specs.declared.certificate.TidyChange.{TidyChange}
use Rattle.md_machine.specs.declared.node.Structure.TheVariants.{Bucket}
use Rattle.md_machine.specs.LogicalHeap.{IsPlaced, LogicalHeap}
use Rattle.md_machine.specs.Meaning.{Meaning}
use Rattle.md_list_law.specs.ListShape.{head_word, next_word, IsBucket}
use Rattle.md_list_law.specs.Certificates.{IsUnlink, IsListCertificate}
use Rattle.md_list_law.specs.Rising.{CertificatesRise, TidyChangesRise}

-- a certificate for a key of a map, in the bucket of the key
abbrev pub IsMapCertificate : Shape → (map key : ℕ) → Certificate → Type 0
IsMapCertificate shape map key c =
    IsListCertificate shape (Bucket map (bucket_of shape key)) (head_word shape map (bucket_of shape key)) map key c

-- an unlink in a bucket
abbrev pub IsBucketUnlink : Shape → (map bucket : ℕ) → TidyChange → Type 0
IsBucketUnlink shape map bucket t = IsUnlink shape (Bucket map bucket) (head_word shape map bucket) t

-- the buckets of a valid heap are lists, and placed nodes are nodes of the field. The theory has the certificates and
-- the unlinks of lists; the heads of lists and the next words of nodes are links. And keys rise along the links of a
-- bucket after each of the theory's certificates and tidy changes, also in what a doomed transaction sees
pub record HasListsOf (M : Meaning) : Type 0 where
  pub buckets : (h : LogicalHeap) (map bucket : ℕ) → M.valid h → map < h.words.shape.maps → bucket < h.words.shape.buckets → IsBucket h map bucket
  pub nodes : (h : LogicalHeap) (node : ℕ) → M.valid h → IsPlaced h node → IsNode h.words.shape node
  pub certifies : (shape : Shape) (map key : ℕ) (c : Certificate) → map < shape.maps → IsMapCertificate shape map key c → M.certifies shape c
  pub unlinks : (shape : Shape) (map bucket : ℕ) (t : TidyChange) → map < shape.maps → bucket < shape.buckets → IsBucketUnlink shape map bucket t
      → M.tidies shape t
  pub heads : (shape : Shape) (map bucket : ℕ) → map < shape.maps → bucket < shape.buckets → M.links shape (head_word shape map bucket)
  pub next_words : (shape : Shape) (node : ℕ) → IsNode shape node → M.links shape (next_word shape node)
  pub rising : CertificatesRise M
  pub rising_tidied : TidyChangesRise M
