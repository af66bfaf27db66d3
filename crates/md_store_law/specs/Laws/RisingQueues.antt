-- Ranks still rise along the links of every queue after each certificate of a map and each unlink.
use Rattle.std.proofs.Common.{◌≡◌, ℕ, ◌+◌, ◌<◌, [], ◌∷◌, false, true, None, refl, sym, subst, inl, inr, ⊎_elim}
use Rattle.std.specs.List.{All}
use Rattle.std.proofs.lemmas.List.Elements.{All-contains, All-head}
use Rattle.md_words.specs.Link.{link_value}
use Rattle.md_words.specs.Place.{bucket_head, queue_head, queue_tail}
use Rattle.md_words.specs.Layout.{bucket_of}
use Rattle.md_words.proofs.Places.{address_differs, bucket_of_below}
use Rattle.md_machine.specs.declared.node.Structure.{Structure}
use Rattle.md_machine.specs.declared.node.Structure.TheVariants.{Bucket}
use Rattle.md_machine.specs.declared.certificate.Certificate.{Certificate}
use Rattle.md_machine.specs.declared.certificate.Change.{Change}
use Rattle.md_machine.specs.declared.certificate.NewNode.{NewNode}
use Rattle.md_machine.specs.declared.certificate.TidyChange.{TidyChange}
use Rattle.md_machine.specs.LogicalHeap.{LogicalHeap, Holds}
use Rattle.md_machine.specs.Meaning.{StandsBy, TidyStandsBy, after_certificate, after_tidy}
use Rattle.md_list_law.specs.ListShape.{head_word, next_word}
use Rattle.md_list_law.specs.Certificates.{key_fact, pair_fact, node_fact, PlacesNode, IsRow, IsUnlink, get_some, get_none, insert_false, insert_true, remove_none, remove_some, put_none, put_some}
use Rattle.md_list_law.proofs.Changing.{IsListWord}
use Rattle.md_hash_law.specs.HashTable.{IsTableCertificate, IsTableUnlink}
use Rattle.md_hash_law.specs.Laws.Buckets.{head_apart}
use Rattle.md_queue_law.specs.Rising.{QueueRises}
use Rattle.md_queue_law.specs.Laws.RisingRanks.{IsAway}
use Rattle.md_queue_law.specs.Laws.RisingCertificates.{away_changed, away_placed, rises_by, rises_tidied}

module _ (own h : LogicalHeap) (queue : ℕ) (within : queue < h.words.shape.queues) (r : QueueRises own h queue)
    (map bucket : ℕ) (m : map < h.words.shape.maps) (b : bucket < h.words.shape.buckets) where
  abbrev list : Structure
  list = Bucket map bucket

  abbrev head : ℕ
  head = head_word h.words.shape map bucket

  -- a word of the bucket is none of the queue's
  bucket_away : (word : ℕ) → IsListWord h list head word → IsAway h queue word
  bucket_away word = ⊎_elim
      (λ e. subst (IsAway h queue) (sym e) (inl (
        address_differs h.words.shape (bucket_head map bucket) (queue_head queue) (m, b) within (λ e. cc),
        address_differs h.words.shape (bucket_head map bucket) (queue_tail queue) (m, b) within (λ e. cc),
        head_apart h.words.shape map bucket m b,
      )))
      (λ t. inr (t.0, list, t.1, (λ e. cc), t.2))

  abbrev IsFresh : NewNode → Type 0
  IsFresh n = h.placed n.node ≡ None

  place_rises : (key value : ℕ) (c : Certificate) → StandsBy own h c → PlacesNode h.words.shape list head c key value
      → QueueRises (after_certificate own c) (after_certificate h c) queue
  place_rises key value c st p =
      let change : Change = record { word = p.word; old = p.old; new = link_value p.node false } in
      let node : NewNode = record { node = p.node; structure = list; key = key; value = value; next = p.old } in
      rises_by own h queue c (change ∷ []) (node ∷ []) p.changes p.nodes (away_placed own h queue within r change node
      (bucket_away p.word (⊎_elim inl
      (λ t. let fact = All-contains (Holds h) c.facts (key_fact list t.0 t.1) st.facts t.2 in inr (t.0, fact.placed, t.4))
      p.place.after))
      p.is_node (All-head IsFresh node [] (subst (All IsFresh) p.nodes st.fresh)) (λ e. cc))

  row_rises : (key : ℕ) (c : Certificate) → IsRow h.words.shape list head map key c → StandsBy own h c
      → QueueRises (after_certificate own c) (after_certificate h c) queue
  row_rises key c (get_some _ value op reply none records) st = rises_by own h queue c [] [] none.changes none.nodes r
  row_rises key c (get_none op reply none records) st = rises_by own h queue c [] [] none.changes none.nodes r
  row_rises key c (insert_false _ value op reply none records) st = rises_by own h queue c [] [] none.changes none.nodes r
  row_rises key c (remove_none op reply none records) st = rises_by own h queue c [] [] none.changes none.nodes r
  row_rises key c (insert_true value op reply p) st = place_rises key value c st p
  row_rises key c (put_none value op reply p) st = place_rises key value c st p
  row_rises key c (put_some old value op reply p) st =
      let change : Change = record { word = next_word h.words.shape p.node; old = p.next; new = link_value p.new true } in
      let node : NewNode = record { node = p.new; structure = list; key = key; value = value; next = p.next } in
      let fact = All-contains (Holds h) c.facts (pair_fact list p.node key old) st.facts p.fact in
      rises_by own h queue c (change ∷ []) (node ∷ []) p.changes p.nodes (away_placed own h queue within r change node
      (inr (p.node, list, fact.placed, (λ e. cc), refl))
      p.is_node (All-head IsFresh node [] (subst (All IsFresh) p.nodes st.fresh)) (λ e. cc))
  row_rises key c (remove_some value op reply p) st =
      let change : Change = record { word = next_word h.words.shape p.node; old = p.old; new = p.old + 1 } in
      let fact = All-contains (Holds h) c.facts (pair_fact list p.node key value) st.facts p.fact in
      rises_by own h queue c (change ∷ []) [] p.changes p.nodes (away_changed own h queue within r change (inr (p.node, list, fact.placed, (λ e. cc), refl)))

  unlink_rises : (t : TidyChange) → IsUnlink h.words.shape list head t → TidyStandsBy own h t
      → QueueRises (after_tidy own t) (after_tidy h t) queue
  unlink_rises t u st = rises_tidied own h queue t u.nodes (away_changed own h queue within r t.change (bucket_away t.change.word (⊎_elim inl
      (λ x. let fact = All-contains (Holds h) t.facts (node_fact list x.0) st.facts x.1 in inr (x.0, fact.placed, x.2))
      u.word)))

pub table_certificate_rises : (own h : LogicalHeap) (queue : ℕ) (c : Certificate) → queue < h.words.shape.queues
    → IsTableCertificate h.words.shape c
    → StandsBy own h c → QueueRises own h queue → QueueRises (after_certificate own c) (after_certificate h c) queue
table_certificate_rises own h queue c within (map, key, m, is) stands r =
    row_rises own h queue within r map (bucket_of h.words.shape key) m (bucket_of_below h.words.shape key) key c is.row stands

pub table_unlink_rises : (own h : LogicalHeap) (queue : ℕ) (t : TidyChange) → queue < h.words.shape.queues
    → IsTableUnlink h.words.shape t
    → TidyStandsBy own h t → QueueRises own h queue → QueueRises (after_tidy own t) (after_tidy h t) queue
table_unlink_rises own h queue t within (map, bucket, m, b, is) stands r = unlink_rises own h queue within r map bucket m b t is stands
