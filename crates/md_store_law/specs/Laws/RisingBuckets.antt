-- Keys still rise along the links of every bucket after each certificate of a queue and each move of a tail.
use Rattle.std.proofs.Common.{◌≡◌, ◌≢◌, ℕ, ◌+◌, ◌<◌, [], ◌∷◌, None, refl, sym, subst, inl, inr, ⊎_elim}
use Rattle.std.specs.List.{All}
use Rattle.std.proofs.lemmas.List.Elements.{All-head}
use Rattle.md_words.specs.declared.shape.Shape.{Shape}
use Rattle.md_words.specs.Place.{Place, bucket_head, queue_head, queue_tail, node_next}
use Rattle.md_words.specs.Layout.{address, Exists}
use Rattle.md_words.proofs.Places.{address_differs}
use Rattle.md_history.specs.declared.acts.Op.{Op}
use Rattle.md_history.specs.declared.acts.Op.TheVariants.{Get, Insert, Remove, Put, Enqueue, Dequeue, Front, Line}
use Rattle.md_machine.specs.declared.node.Structure.TheVariants.{Bucket, Queue}
use Rattle.md_machine.specs.declared.certificate.Certificate.{Certificate}
use Rattle.md_machine.specs.declared.certificate.Change.{Change}
use Rattle.md_machine.specs.declared.certificate.NewNode.{NewNode}
use Rattle.md_machine.specs.declared.certificate.TidyChange.{TidyChange}
use Rattle.md_machine.specs.LogicalHeap.{LogicalHeap, Holds}
use Rattle.md_machine.specs.Meaning.{StandsBy, after_certificate, after_tidy}
use Rattle.md_machine.proofs.chain.Agree.{certificate_shape, tidy_shape}
use Rattle.md_list_law.specs.ListShape.{head_word}
use Rattle.md_list_law.specs.Rising.{BothRise, BucketRises}
use Rattle.md_list_law.proofs.Changing.{after_change}
use Rattle.md_list_law.proofs.RisingLinks.{IsAway}
use Rattle.md_list_law.proofs.RisingRows.{away_changed, away_placed, rise_by, rise_tidied}
use Rattle.md_hash_law.specs.Laws.Buckets.{head_apart}
use Rattle.md_queue_law.specs.QueueShape.{link}
use Rattle.md_queue_law.specs.QueueCertificates.{head_change, tail_change, next_change, new_node, has_key, Enqueues, Dequeues, CertifiesOp, CertifiesQueue, MovesTail}

module _ (own h : LogicalHeap) (map bucket : ℕ) (m : map < h.words.shape.maps) (b : bucket < h.words.shape.buckets) (r : BucketRises own h map bucket) where
  abbrev head : ℕ
  head = head_word h.words.shape map bucket

  -- a queue's head and tail aren't words of the bucket
  root_away : (p : Place) → Exists h.words.shape p → p ≢ bucket_head map bucket → ((node : ℕ) → p ≢ node_next node)
      → IsAway h (Bucket map bucket) head (address h.words.shape p)
  root_away p is no_head no_next = inl (
    address_differs h.words.shape p (bucket_head map bucket) is (m, b) no_head,
    λ node is_node e. address_differs h.words.shape p (node_next node) is is_node (no_next node) (sym e),
  )

  abbrev Rises : LogicalHeap → LogicalHeap → Type 0
  Rises k l = BothRise k l (Bucket map bucket) head

  enqueue_rises : (q value : ℕ) (c : Certificate) → Enqueues h.words.shape q value c → StandsBy own h c
      → Rises (after_certificate own c) (after_certificate h c)
  enqueue_rises q value c e stands =
      let fact = All-head (Holds h) (has_key q e.last e.rank) [] (subst (All (Holds h)) e.facts stands.facts) in
      let change = next_change h.words.shape e.last 0 (link e.node) in
      let node = new_node q e.node (e.rank + 1) value in
      let fresh = All-head (λ (n : NewNode). h.placed n.node ≡ None) node [] (subst (All (λ (n : NewNode). h.placed n.node ≡ None)) e.nodes stands.fresh) in
      rise_by own h (Bucket map bucket) head c (change ∷ []) (node ∷ []) e.changes e.nodes
      (away_placed own h (Bucket map bucket) head (head_apart h.words.shape map bucket m b) r change node
      (inr (e.last, Queue q, fact.placed, (λ e. cc), refl)) e.exists fresh (λ e. cc))

  dequeue_rises : (q : ℕ) (c : Certificate) → q < h.words.shape.queues → Dequeues h.words.shape q c → StandsBy own h c
      → Rises (after_certificate own c) (after_certificate h c)
  dequeue_rises q c below e stands =
      let change = head_change h.words.shape q (link e.dummy) (link e.first) in
      rise_by own h (Bucket map bucket) head c (change ∷ []) [] e.changes e.nodes
      (away_changed own h (Bucket map bucket) head (head_apart h.words.shape map bucket m b) r change
      (root_away (queue_head q) below (λ e. cc) (λ node e. cc)))

  nothing_rises : (c : Certificate) → c.changes ≡ [] → c.nodes ≡ []
      → Rises (after_certificate own c) (after_certificate h c)
  nothing_rises c changes nodes = rise_by own h (Bucket map bucket) head c [] [] changes nodes r

  op_rises : (op : Op) (c : Certificate) → CertifiesOp h.words.shape op c → StandsBy own h c
      → Rises (after_certificate own c) (after_certificate h c)
  op_rises (Get map key) c e stands = absurd e
  op_rises (Insert map key value) c e stands = absurd e
  op_rises (Remove map key) c e stands = absurd e
  op_rises (Put map key value) c e stands = absurd e
  op_rises (Enqueue q value) c e stands = enqueue_rises q value c e.1 stands
  op_rises (Dequeue q) c e stands = ⊎_elim (λ d. dequeue_rises q c e.0 d stands) (λ n. nothing_rises c n.changes n.nodes) e.1
  op_rises (Front q) c e stands = ⊎_elim (λ f. nothing_rises c f.changes f.nodes) (λ n. nothing_rises c n.changes n.nodes) e.1
  op_rises (Line q n) c e stands = let l = e.1 in nothing_rises c l.changes l.nodes

  pub queue_certificate_rises : (c : Certificate) → CertifiesQueue h.words.shape c → StandsBy own h c
      → BucketRises (after_certificate own c) (after_certificate h c) map bucket
  queue_certificate_rises c certifies stands =
      subst (λ (s : Shape). BothRise (after_certificate own c) (after_certificate h c) (Bucket map bucket) (head_word s map bucket)) (sym (certificate_shape h c))
      (op_rises c.op c certifies stands)

  pub move_rises : (t : TidyChange) → MovesTail h.words.shape t
      → BucketRises (after_tidy own t) (after_tidy h t) map bucket
  move_rises t e =
      let change = tail_change h.words.shape e.queue (link e.from) (link e.to) in
      subst (λ (s : Shape). BothRise (after_tidy own t) (after_tidy h t) (Bucket map bucket) (head_word s map bucket)) (sym (tidy_shape h t))
      (rise_tidied own h (Bucket map bucket) head t e.nodes
      (subst (λ (x : Change). BothRise (after_change own x) (after_change h x) (Bucket map bucket) head) (sym e.change)
      (away_changed own h (Bucket map bucket) head (head_apart h.words.shape map bucket m b) r change
      (root_away (queue_tail e.queue) e.within (λ e. cc) (λ node e. cc)))))
