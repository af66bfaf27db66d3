-- Keys still rise along the links of every bucket after each certificate and each unlink of the hash tables.
use Rattle.std.proofs.Common.{◌≢◌, ℕ, ◌<◌, sym, subst, ⊎_elim}
use Rattle.std.proofs.lemmas.Bool.{cases_eq}
use Rattle.md_words.specs.declared.shape.Shape.{Shape}
use Rattle.md_words.specs.Layout.{bucket_of}
use Rattle.md_words.proofs.Places.{bucket_of_below}
use Rattle.md_machine.specs.declared.node.Structure.TheVariants.{Bucket}
use Rattle.md_machine.specs.declared.certificate.Certificate.{Certificate}
use Rattle.md_machine.specs.declared.certificate.TidyChange.{TidyChange}
use Rattle.md_machine.specs.LogicalHeap.{LogicalHeap}
use Rattle.md_machine.specs.Meaning.{StandsBy, TidyStandsBy, after_certificate, after_tidy}
use Rattle.md_machine.proofs.chain.Agree.{certificate_shape, tidy_shape}
use Rattle.md_list_law.specs.ListShape.{head_word}
use Rattle.md_list_law.specs.Rising.{BothRise, BucketRises}
use Rattle.md_list_law.proofs.Links.{heads_differ}
use Rattle.md_list_law.proofs.RisingRows.{row_rises, row_away, unlink_rises, unlink_away}
use Rattle.md_hash_law.specs.HashTable.{IsTableCertificate, IsTableUnlink}
use Rattle.md_hash_law.specs.Laws.Buckets.{head_apart}

-- a bucket is another one, or has another structure and another head
by_bucket : (shape : Shape) (P : (map bucket : ℕ) → Type 0) (map bucket other_map other_bucket : ℕ) → map < shape.maps
    → bucket < shape.buckets
    → other_map < shape.maps → other_bucket < shape.buckets → P other_map other_bucket
    → (Bucket other_map other_bucket ≢ Bucket map bucket → head_word shape other_map other_bucket ≢ head_word shape map bucket → P map bucket)
    → P map bucket
by_bucket shape P map bucket other_map other_bucket m b om ob same apart = ⊎_elim
    (λ e. ⊎_elim
    (λ f. subst (λ x. P x bucket) (sym e) (subst (P other_map) (sym f) same))
    (λ ne. apart (λ eq. ne (sym (cc eq))) (heads_differ shape other_map other_bucket map bucket om ob m b (λ eq. ne (sym (cc eq)))))
    (cases_eq bucket other_bucket))
    (λ ne. apart (λ eq. ne (sym (cc eq))) (heads_differ shape other_map other_bucket map bucket om ob m b (λ eq. ne (sym (cc eq)))))
    (cases_eq map other_map)

-- a certificate of the tables leaves keys rising in each bucket
pub table_rises : (own h : LogicalHeap) (map bucket : ℕ) (c : Certificate) → map < h.words.shape.maps
    → bucket < h.words.shape.buckets
    → IsTableCertificate h.words.shape c → StandsBy own h c → BucketRises own h map bucket
    → BucketRises (after_certificate own c) (after_certificate h c) map bucket
table_rises own h map bucket c m b (other, key, om, is) stands rises =
    let shape = h.words.shape in
    let home = bucket_of shape key in
    let ob = bucket_of_below shape key in
    let Rises : (map bucket : ℕ) → Type 0 = λ map bucket. (map < shape.maps) → (bucket < shape.buckets) → BucketRises own h map bucket
    → BothRise (after_certificate own c) (after_certificate h c) (Bucket map bucket) (head_word shape map bucket) in
    subst (λ (s : Shape). BothRise (after_certificate own c) (after_certificate h c) (Bucket map bucket) (head_word s map bucket)) (sym (certificate_shape h c))
    (by_bucket shape Rises map bucket other home m b om ob
    (λ m b r. row_rises own h (Bucket other home) (head_word shape other home) (head_apart shape other home m b) r other key c is.row stands)
    (λ differ apart m b r. row_away own h (Bucket map bucket) (head_word shape map bucket) (head_apart shape map bucket m b) r
    (Bucket other home) (head_word shape other home) differ apart (head_apart shape other home om ob) other key c is.row stands)
    m b rises)

-- so does an unlink
pub table_tidied : (own h : LogicalHeap) (map bucket : ℕ) (t : TidyChange) → map < h.words.shape.maps
    → bucket < h.words.shape.buckets
    → IsTableUnlink h.words.shape t → TidyStandsBy own h t → BucketRises own h map bucket
    → BucketRises (after_tidy own t) (after_tidy h t) map bucket
table_tidied own h map bucket t m b (other, home, om, ob, is) stands rises =
    let shape = h.words.shape in
    let Rises : (map bucket : ℕ) → Type 0 = λ map bucket. (map < shape.maps) → (bucket < shape.buckets) → BucketRises own h map bucket
    → BothRise (after_tidy own t) (after_tidy h t) (Bucket map bucket) (head_word shape map bucket) in
    subst (λ (s : Shape). BothRise (after_tidy own t) (after_tidy h t) (Bucket map bucket) (head_word s map bucket)) (sym (tidy_shape h t))
    (by_bucket shape Rises map bucket other home m b om ob
    (λ m b r. unlink_rises own h (Bucket other home) (head_word shape other home) (head_apart shape other home m b) r t is stands)
    (λ differ apart m b r. unlink_away own h (Bucket map bucket) (head_word shape map bucket) (head_apart shape map bucket m b) r
    (Bucket other home) (head_word shape other home) differ apart (head_apart shape other home om ob) t is stands)
    m b rises)
