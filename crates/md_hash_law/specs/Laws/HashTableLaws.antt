-- The laws of the theory of hash tables, and that it has lists. Each is cited by the impl alone.
use Rattle.std.proofs.Common.{◌≡◌, ℕ, ◌<◌, List, [], Some, refl, sym, ap, ◌∙◌, subst, inl, inr, ⊎_elim}
use Rattle.md_words.specs.declared.shape.Shape.{Shape}
use Rattle.md_words.specs.Layout.{IsNode, bucket_of}
use Rattle.md_words.specs.PlaceAt.{IsCounted}
use Rattle.md_words.proofs.Places.{bucket_of_below}
use Rattle.md_history.specs.State.{State, Table, answer, after}
use Rattle.md_machine.specs.declared.node.Structure.{Structure}
use Rattle.md_machine.specs.declared.node.Structure.TheVariants.{Bucket}
use Rattle.md_machine.specs.declared.certificate.Certificate.{Certificate}
use Rattle.md_machine.specs.declared.certificate.TidyChange.{TidyChange}
use Rattle.md_machine.specs.LogicalHeap.{LogicalHeap, IsPlaced, IsNoUnplacedNext, AgreeWherePlaced}
use Rattle.md_machine.specs.Meaning.{Stands, TidyStands, KeepsFacts, Follows, NamesPlaced, after_certificate, after_tidy}
use Rattle.md_list_law.specs.ListShape.{next_word, head_word, IsIn, IsBucket}
use Rattle.md_list_law.specs.HasLists.{HasListsOf}
use Rattle.md_list_law.proofs.Order.{onward_names}
use Rattle.md_list_law.proofs.ListKept.{pairs_same}
use Rattle.md_list_law.proofs.Elsewhere.{facts_kept}
use Rattle.md_list_law.proofs.Standing.{ListAfter, RowAfter, SameAfter, row_after, unlink_after}
use Rattle.md_list_law.proofs.Framing.{same_framed, names_placed}
use Rattle.md_hash_law.specs.HashTable.{AreBuckets, IsBucketOf, hash_table}
use Rattle.md_hash_law.specs.Laws.Buckets.{head_apart, bucket_same, buckets_after, same_everywhere, acts_after, maps_same}
use Rattle.md_hash_law.specs.Laws.Rising.{table_rises, table_tidied}

-- maps as a state
maps_state : (maps others : List Table) → maps ≡ others → ◌≡◌ {A = State} (record { maps = maps; queues = [] }) (record { maps = others; queues = [] })
maps_state maps others e = ap (λ (x : List Table). record { maps = x; queues = [] }) e

module _ (h : LogicalHeap) (are : AreBuckets h) (alone : (node : ℕ) (s : Structure) → h.placed node ≡ Some s → IsBucketOf h.words.shape s) where
  -- a placed node, its bucket, and what its next word names
  pub node_of : (node : ℕ) → IsPlaced h node → IsNode h.words.shape node
  node_of node placed = let t = alone node placed.0 placed.1 in (are t.0 t.1 t.2 t.3).list.nodes node (placed.1 ∙ ap (λ (s : Structure). Some s) t.4)

  pub next_names : (node : ℕ) → IsPlaced h node → NamesPlaced h (h.words.value (next_word h.words.shape node))
  next_names node placed =
      let t = alone node placed.0 placed.1 in
      let is = (are t.0 t.1 t.2 t.3).list in
      names_placed h (Bucket t.0 t.1) _ (onward_names h (Bucket t.0 t.1) _ _
      (is.rises node (placed.1 ∙ ap (λ (s : Structure). Some s) t.4)))

  -- after a change of a bucket's list each placed node is still of a bucket, and each fact holds
  module _ (k : LogicalHeap) (map bucket : ℕ) (m : map < h.words.shape.maps) (b : bucket < h.words.shape.buckets)
      (a : ListAfter h k (Bucket map bucket) (head_word h.words.shape map bucket))
      (home : (node : ℕ) → IsIn k (Bucket map bucket) node → bucket_of h.words.shape (k.words.key_of node) ≡ bucket) where
    pub still_alone : (node : ℕ) (s : Structure) → k.placed node ≡ Some s → IsBucketOf k.words.shape s
    still_alone node s i = subst (λ (shape : Shape). IsBucketOf shape s) (sym a.only.shape)
        (⊎_elim (λ e. alone node s (sym e ∙ i)) (λ t. let there = t.1 in (map, bucket, m, b, cc (i, there))) (a.only.placed node))

    pub still_known : KeepsFacts h k
    still_known = facts_kept h k map bucket (head_word h.words.shape map bucket) a.only (head_apart h.words.shape map bucket m b) node_of

-- the nodes of a changed list have keys of its bucket
pub row_home : (h k : LogicalHeap) (map bucket key : ℕ) (c : Certificate) → IsBucket h map bucket → bucket_of h.words.shape key ≡ bucket
    → RowAfter h k (Bucket map bucket) (head_word h.words.shape map bucket) map key c → (node : ℕ) → IsIn k (Bucket map bucket) node
    → bucket_of h.words.shape (k.words.key_of node) ≡ bucket
row_home h k map bucket key c is at r node i = ⊎_elim
    (λ j. ap (bucket_of h.words.shape) (r.after.only.key_of node (Bucket map bucket, j)) ∙ is.keys node j)
    (λ e. ap (bucket_of h.words.shape) e ∙ at)
    (r.nodes node i)

pub unlink_home : (h k : LogicalHeap) (map bucket : ℕ) → IsBucket h map bucket → SameAfter h k (Bucket map bucket) (head_word h.words.shape map bucket)
    → (node : ℕ) → IsIn k (Bucket map bucket) node → bucket_of h.words.shape (k.words.key_of node) ≡ bucket
unlink_home h k map bucket is r node i = let j = r.nodes node i in ap (bucket_of h.words.shape) (r.after.only.key_of node (Bucket map bucket, j))
    ∙ is.keys node j

-- the five laws; facts are kept in what follows
pub certificate_law : (h : LogicalHeap) (c : Certificate) → hash_table.valid h → hash_table.certifies h.words.shape c → Stands h c
    → (c.reply ≡ answer (hash_table.state h.words) c.op) × Follows hash_table h (after (hash_table.state h.words) c.op) (after_certificate h c)
certificate_law h c valid (map, key, m, is) stands =
    let k = after_certificate h c in
    let bucket = bucket_of h.words.shape key in
    let b = bucket_of_below h.words.shape key in
    let of = valid.buckets map bucket m b in
    let r = row_after h (Bucket map bucket) (head_word h.words.shape map bucket) of.list (head_apart h.words.shape map bucket m b) map key c stands is.row in
    let home = row_home h k map bucket key c of refl r in
    let done = acts_after h k valid.buckets map bucket m b r.after home key c [] refl r.does in (
      done.0,
      record {
        valid = record {
          buckets = buckets_after h k valid.buckets map bucket m b r.after home;
          alone = still_alone h valid.buckets valid.alone k map bucket m b r.after home;
        };
        state = done.1;
        facts = still_known h valid.buckets valid.alone k map bucket m b r.after home;
      },
    )

pub tidy_law : (h : LogicalHeap) (t : TidyChange) → hash_table.valid h → hash_table.tidies h.words.shape t → TidyStands h t
    → Follows hash_table h (hash_table.state h.words) (after_tidy h t)
tidy_law h t valid (map, bucket, m, b, is) stands =
    let k = after_tidy h t in
    let of = valid.buckets map bucket m b in
    let r = unlink_after h (Bucket map bucket) (head_word h.words.shape map bucket) of.list (head_apart h.words.shape map bucket m b) t is stands in
    let home = unlink_home h k map bucket of r in
    let buckets = buckets_after h k valid.buckets map bucket m b r.after home in
    record {
      valid = record { buckets = buckets; alone = still_alone h valid.buckets valid.alone k map bucket m b r.after home };
      state = maps_state _ _ (maps_same h k valid.buckets buckets r.after.only.shape
          (λ om ob q below inside. same_everywhere h k valid.buckets map bucket m b r.after home r.same om ob q below inside));
      facts = still_known h valid.buckets valid.alone k map bucket m b r.after home;
    }

pub frame_law : (h k : LogicalHeap) → hash_table.valid h → AgreeWherePlaced h k → hash_table.valid k × (hash_table.state k.words ≡ hash_table.state h.words)
frame_law h k valid agree =
    let same = λ (map bucket : ℕ) (m : map < h.words.shape.maps) (b : bucket < h.words.shape.buckets). same_framed h k agree
    (Bucket map bucket) map bucket m b (valid.buckets map bucket m b).list in
    let buckets : AreBuckets k = λ map bucket below inside.
    let m = subst (λ (s : Shape). map < s.maps) agree.shape below in
    let b = subst (λ (s : Shape). bucket < s.buckets) agree.shape inside in
    bucket_same h k map bucket (same map bucket m b) (valid.buckets map bucket m b) in (
      record {
        buckets = buckets;
        alone = λ node s i. subst (λ (shape : Shape). IsBucketOf shape s) (sym agree.shape)
            (valid.alone node s (sym (agree.placed node) ∙ i));
      },
      maps_state _ _ (maps_same h k valid.buckets buckets agree.shape
          (λ map bucket q m b. pairs_same h k (Bucket map bucket) (head_word h.words.shape map bucket) (same map bucket m b)
          (valid.buckets map bucket m b).list q)),
    )

pub link_law : (h : LogicalHeap) (word : ℕ) → hash_table.valid h → IsCounted h.words.shape word → hash_table.links h.words.shape word
    → IsNoUnplacedNext h word → NamesPlaced h (h.words.value word)
link_law h word valid counted links free = ⊎_elim
    (λ t. subst (λ w. NamesPlaced h (h.words.value w)) (sym t.4) (names_placed h (Bucket t.0 t.1) _ (valid.buckets t.0 t.1 t.2 t.3).list.first))
    (λ t. subst (λ w. NamesPlaced h (h.words.value w)) (sym t.2) (next_names h valid.buckets valid.alone t.0 (free t.0 t.1 t.2)))
    links

pub has_lists_law : HasListsOf hash_table
has_lists_law = record {
  buckets = λ h map bucket valid m b. valid.buckets map bucket m b;
  nodes = λ h node valid placed. node_of h valid.buckets valid.alone node placed;
  certifies = λ shape map key c m is. (map, key, m, is);
  unlinks = λ shape map bucket t m b is. (map, bucket, m, b, is);
  heads = λ shape map bucket m b. inl (map, bucket, m, b, refl);
  next_words = λ shape node is. inr (node, is, refl);
  rising = table_rises;
  rising_tidied = table_tidied;
}
