-- Ranks still rise along a queue's links after its certificates and moves of its tail, and after those of other queues.
use Rattle.std.proofs.Common.{◌≡◌, ◌≢◌, ℕ, ◌+◌, ◌<◌, List, [], ◌∷◌, Some, None, eqb, not, eq-eqb, refl, sym, ap, ◌∙◌, subst, inl, inr, ⊎_elim, arith}
use Rattle.std.specs.List.{All}
use Rattle.std.proofs.lemmas.Bool.{both_ways}
use Rattle.std.proofs.lemmas.List.Elements.{All-head, All-tail}
use Rattle.md_words.specs.Layout.{IsNode}
use Rattle.md_history.specs.declared.acts.Op.{Op}
use Rattle.md_history.specs.declared.acts.Op.TheVariants.{Get, Insert, Remove, Put, Enqueue, Dequeue, Front, Line}
use Rattle.md_machine.specs.declared.node.Structure.{Structure}
use Rattle.md_machine.specs.declared.node.Structure.TheVariants.{Queue}
use Rattle.md_machine.specs.declared.certificate.Certificate.{Certificate}
use Rattle.md_machine.specs.declared.certificate.Change.{Change}
use Rattle.md_machine.specs.declared.certificate.NewNode.{NewNode}
use Rattle.md_machine.specs.declared.certificate.TidyChange.{TidyChange}
use Rattle.md_machine.specs.LogicalHeap.{LogicalHeap, Holds, after_node, after_nodes}
use Rattle.md_machine.specs.Meaning.{StandsBy, TidyStandsBy, after_certificate, after_tidy}
use Rattle.md_queue_law.specs.QueueShape.{link, IsOf}
use Rattle.md_queue_law.specs.QueueCertificates.{head_change, tail_change, next_change, new_node, has_key, has_value, has_next, Enqueues, Dequeues, CertifiesOp, CertifiesQueue, MovesTail}
use Rattle.md_queue_law.specs.Rising.{QueueRises}
use Rattle.md_queue_law.specs.Laws.Words.{next_same, head_same, tail_same, head_not_next, tail_not_next, head_not_tail}
use Rattle.md_queue_law.specs.Laws.Following.{put_same}
use Rattle.md_queue_law.specs.Laws.RootChanges.{after_change, after_lists}
use Rattle.md_queue_law.specs.Laws.RisingRanks.{IsAway, away_may, both_changed, both_placed}

module _ (own h : LogicalHeap) (queue : ℕ) where
  -- a certificate with these changes and nodes
  pub rises_by : (c : Certificate) (changes : List Change) (nodes : List NewNode) → c.changes ≡ changes
      → c.nodes ≡ nodes
      → QueueRises (after_lists own changes nodes) (after_lists h changes nodes) queue
      → QueueRises (after_certificate own c) (after_certificate h c) queue
  rises_by c changes nodes e f b = subst (λ x. QueueRises (after_lists own x c.nodes) (after_lists h x c.nodes) queue) (sym e)
      (subst (λ x. QueueRises (after_lists own changes x) (after_lists h changes x) queue) (sym f) b)

  pub rises_tidied : (t : TidyChange) → t.nodes ≡ []
      → QueueRises (after_change own t.change) (after_change h t.change) queue
      → QueueRises (after_tidy own t) (after_tidy h t) queue
  rises_tidied t e b = subst (λ x. QueueRises (after_nodes (after_change own t.change) x) (after_nodes (after_change h t.change) x) queue) (sym e) b

module _ (own h : LogicalHeap) (queue : ℕ) (within : queue < h.words.shape.queues) (b : QueueRises own h queue) where
  -- a change of one word away from the queue, and one more node of another structure
  pub away_changed : (c : Change) → IsAway h queue c.word → QueueRises (after_change own c) (after_change h c) queue
  away_changed c away = both_changed own h queue b c (away_may own h queue b within h c.word c.new away)

  pub away_placed : (c : Change) (n : NewNode) → IsAway h queue c.word → IsNode h.words.shape n.node
      → h.placed n.node ≡ None → n.structure ≢ Queue queue
      → QueueRises (after_node (after_change own c) n) (after_node (after_change h c) n) queue
  away_placed c n away is_node fresh other = both_placed own h queue b c within n is_node fresh
      (away_may own h queue b within (after_node (after_change h c) n) c.word c.new away) (λ e. absurd (other e))

  exists : (node q : ℕ) → IsOf h q node → IsNode h.words.shape node
  exists node q of = b.nodes.exist node (Queue q, of)

  -- a new node behind the last one, of this queue or of another one
  enqueue_rises : (q value : ℕ) (c : Certificate) → Enqueues h.words.shape q value c → StandsBy own h c
      → QueueRises (after_certificate own c) (after_certificate h c) queue
  enqueue_rises q value c e stands =
      let fact = All-head (Holds h) (has_key q e.last e.rank) [] (subst (All (Holds h)) e.facts stands.facts) in
      let change = next_change h.words.shape e.last 0 (link e.node) in
      let node = new_node q e.node (e.rank + 1) value in
      let fresh = All-head (λ (n : NewNode). h.placed n.node ≡ None) node [] (subst (All (λ (n : NewNode). h.placed n.node ≡ None)) e.nodes stands.fresh) in
      let last = exists e.last q fact.placed in
      let key : h.words.key_of e.last ≡ e.rank = fact.key in
      rises_by own h queue c (change ∷ []) (node ∷ []) e.changes e.nodes (both_placed own h queue b change within node e.exists fresh
      (record {
        in_head = λ at. absurd (head_not_next h.words.shape queue e.last within last (sym at));
        in_tail = λ at. absurd (tail_not_next h.words.shape queue e.last within last (sym at));
        in_next = λ n of at.
            let same : n ≡ e.last = next_same h.words.shape n e.last (exists n queue of) last (sym at) in
            let there : h.placed e.last ≡ Some (Queue q) = fact.placed in
            let also : h.placed n ≡ Some (Queue queue) = of in
            let one : q ≡ queue = cc (ap h.placed same, there, also) in
            inr (
              e.node,
              put_same h.placed e.node (Some (Queue q)) e.node refl ∙ ap (λ (x : ℕ). Some (Queue x)) one,
              refl,
              put_same h.words.key_of e.node (e.rank + 1) e.node refl ∙ omega (arith, ap h.words.key_of same, key),
            );
      })
      (λ one. record {
        next = inl refl;
        lower = λ rank eq. (e.last, fact.placed ∙ ap (λ (x : Structure). Some x) one, key ∙ omega (arith, eq));
      }))

  -- the head is moved to the next node
  dequeue_rises : (q : ℕ) (c : Certificate) → q < h.words.shape.queues → Dequeues h.words.shape q c → StandsBy own h c
      → QueueRises (after_certificate own c) (after_certificate h c) queue
  dequeue_rises q c below e stands =
      let has = has_value q e.first e.value in
      let fact = All-head (Holds h) has [] (All-tail (Holds h) (has_next q e.dummy (link e.first)) (has ∷ []) (subst (All (Holds h)) e.facts stands.facts)) in
      let change = head_change h.words.shape q (link e.dummy) (link e.first) in
      rises_by own h queue c (change ∷ []) [] e.changes e.nodes (both_changed own h queue b change (record {
        in_head = λ at. (e.first, subst (λ x. IsOf h x e.first) (head_same h.words.shape q queue below within at) fact.placed, refl);
        in_tail = λ at. absurd (head_not_tail h.words.shape q queue below within at);
        in_next = λ n of at. absurd (head_not_next h.words.shape q n below (exists n queue of) at);
      }))

  -- the tail is moved to the next node
  pub move_rises : (t : TidyChange) → MovesTail h.words.shape t → TidyStandsBy own h t
      → QueueRises (after_tidy own t) (after_tidy h t) queue
  move_rises t e stands =
      let fact = All-head (Holds h) (has_next e.queue e.from (link e.to)) [] (subst (All (Holds h)) e.facts stands.facts) in
      let change = tail_change h.words.shape e.queue (link e.from) (link e.to) in
      let settled = fact.next.1 in
      rises_tidied own h queue t e.nodes (subst (λ (x : Change). QueueRises (after_change own x) (after_change h x) queue) (sym e.change)
      (both_changed own h queue b change (record {
        in_head = λ at. absurd (head_not_tail h.words.shape queue e.queue within e.within (sym at));
        in_tail = λ at.
            let one = tail_same h.words.shape e.queue queue e.within within at in
            let from : IsOf h queue e.from = subst (λ x. IsOf h x e.from) one fact.placed in
            ⊎_elim
            (λ none. absurd (both_ways (not (eqb (link e.to) 0)) (ap not (eq-eqb (link e.to) 0 (sym fact.next.0 ∙ none))) settled))
            (λ x. (x.0, x.1, sym fact.next.0 ∙ x.2))
            (b.there.next e.from from);
        in_next = λ n of at. absurd (tail_not_next h.words.shape e.queue n e.within (exists n queue of) at);
      })))

  -- a certificate of any queue
  op_rises : (op : Op) (c : Certificate) → CertifiesOp h.words.shape op c → StandsBy own h c
      → QueueRises (after_certificate own c) (after_certificate h c) queue
  op_rises (Get map key) c e stands = absurd e
  op_rises (Insert map key value) c e stands = absurd e
  op_rises (Remove map key) c e stands = absurd e
  op_rises (Put map key value) c e stands = absurd e
  op_rises (Enqueue q value) c e stands = enqueue_rises q value c e.1 stands
  op_rises (Dequeue q) c e stands = ⊎_elim (λ d. dequeue_rises q c e.0 d stands) (λ n. rises_by own h queue c [] [] n.changes n.nodes b) e.1
  op_rises (Front q) c e stands = ⊎_elim (λ f. rises_by own h queue c [] [] f.changes f.nodes b) (λ n. rises_by own h queue c [] [] n.changes n.nodes b) e.1
  op_rises (Line q n) c e stands = let l = e.1 in rises_by own h queue c [] [] l.changes l.nodes b

  pub certificate_rises : (c : Certificate) → CertifiesQueue h.words.shape c → StandsBy own h c
      → QueueRises (after_certificate own c) (after_certificate h c) queue
  certificate_rises c certifies stands = op_rises c.op c certifies stands
