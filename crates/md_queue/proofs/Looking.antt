-- What a look at a word of a queue gives: at the head or the tail a node of the queue, and at the next word of a node 0
-- or another node.
use Rattle.std.proofs.Common.{◌≡◌, ◌≢◌, ◌⊎◌, ℕ, suc, List, Some, refl, sym, ap, ◌∙◌, subst, inl, inr, ⊎_elim}
use Rattle.std.proofs.lemmas.List.Elements.{All-contains}
use Rattle.std.specs.List.{Contains}
use Rattle.md_words.specs.declared.shape.Shape.{Shape}
use Rattle.md_words.specs.Layout.{IsNode, address}
use Rattle.md_words.specs.Link.{linked_node}
use Rattle.md_words.specs.Place.{node_next, queue_head, queue_tail}
use Rattle.md_words.specs.PlaceAt.{IsCounted}
use Rattle.md_words.proofs.Places.{counted_by_place}
use Rattle.md_machine.specs.declared.certificate.Certificate.{Certificate}
use Rattle.md_machine.specs.declared.certificate.NewNode.{NewNode}
use Rattle.md_machine.specs.declared.certificate.TidyChange.{TidyChange}
use Rattle.md_machine.specs.declared.node.Structure.TheVariants.{Queue}
use Rattle.md_machine.specs.Certified.{after_wholes, all_nodes}
use Rattle.md_machine.specs.Meaning.{Lawful, Meaning}
use Rattle.md_machine.specs.events.Exchange.{FoundNext}
use Rattle.md_machine.proofs.chain.SameNodes.{next_alone}
use Rattle.md_nbtc_law.specs.declared.seen.Seen.{Seen}
use Rattle.md_nbtc_law.specs.Calls.{GoesOn}
use Rattle.md_nbtc_law.specs.Course.{IsStoredNode, stored_words}
use Rattle.md_nbtc_law.specs.Known.{Known, KnowsPlaced}
use Rattle.md_nbtc_law.specs.Seeing.{IsInPlace, IsNextOf, Looks}
use Rattle.md_nbtc_law.specs.State.{OwnNode, TxnState, shape_in}
use Rattle.md_nbtc_law.proofs.preparing.Heaps.{heap_valid, known_now}
use Rattle.md_nbtc_law.proofs.structures.NodesKnown.{new_exist, placed_or_own, shape_known}
use Rattle.md_queue_law.specs.Laws.Words.{head_not_next, linked_node-link as named_link, tail_not_next}
use Rattle.md_queue_law.specs.QueueMeaning.{HasQueuesOf}
use Rattle.md_queue_law.specs.QueueShape.{NamesOneOf, link}
use Rattle.md_queue_law.specs.Rising.{NamesRank}
use Rattle.md_queue.specs.Nodes.{IsReadable}
use Rattle.md_queue.specs.Words.{head_at, next_at, tail_at}
use Rattle.md_queue.specs.Working.{IsWorking, KnowsOf, NamesNode, SeesAt, SeesNext}
use Rattle.md_queue.proofs.MetInQueues.{named_node}
use Rattle.md_queue.proofs.Passing.{of_on, there_on}
use Rattle.md_queue.proofs.Ranks.{head_names, next_names, tail_names}

module _ (M : Meaning) (lawful : Lawful M) (queues : HasQueuesOf M) (t : TxnState) (queue : ℕ) (cs : List Certificate) (ts : List TidyChange) (w : IsWorking M t queue cs ts) where
  -- a node that is one of the queue after the ended operations is a node of the field, known to be placed or an own one
  pub node_exists : (node : ℕ) → KnowsOf M t cs queue node → IsNode (shape_in t) node
  node_exists node placed = ⊎_elim
      (λ known.
      let now = known_now M lawful (λ u h. (h.placed node ≡ Some (Queue queue)) × M.valid h × (h.words.shape ≡ shape_in t)) t cs w.going
      (λ u later prepared h of. (known u later prepared h of, heap_valid M lawful u h of, shape_known M lawful t u later prepared h of)) in
      subst (λ (s : Shape). IsNode s node) now.2.2 (queues.nodes now.0 node now.2.1 (Queue queue, now.2.0)))
      (λ own. subst (IsNode (shape_in t)) own.2 (All-contains (λ (n : NewNode). IsNode (shape_in t) n.node) (all_nodes cs) own.0 (new_exist M lawful t cs w.going) own.1))
      (placed_or_own M lawful t cs w.going node (Queue queue) placed)

  own_among : (n : NewNode) → Contains (all_nodes cs) n → Contains t.nodes (stored_words n)
  own_among n among = (All-contains (IsStoredNode t) (all_nodes cs) n w.going.course.nodes among).own

  pub node_readable : (node : ℕ) → KnowsOf M t cs queue node → IsReadable M t node
  node_readable node placed = record {
    exists = node_exists node placed;
    among = ⊎_elim
        (λ known. inl (Queue queue, known))
        (λ own. inr (stored_words own.0, own_among own.0 own.1, own.2))
        (placed_or_own M lawful t cs w.going node (Queue queue) placed);
  }

  -- what names a node of the queue in each heap names it
  names_of : (value : ℕ) → Known M t (λ u h. NamesOneOf (after_wholes h cs) queue value) → NamesNode M t cs queue value
  names_of value known =
      let placed : KnowsOf M t cs queue (linked_node value) = λ u later prepared h of. (named_node (after_wholes h cs) queue value (known u later prepared h of)).0 in
      let now = known_now M lawful (λ u h. NamesOneOf (after_wholes h cs) queue value) t cs w.going known in
      record { exists = node_exists (linked_node value) placed; placed = placed; is = (named_node (after_wholes now.0 cs) queue value now.2).1 }

  pub head_named : (head : Seen) → SeesAt M t (head_at t queue) head → NamesNode M t cs queue head.value
  head_named head sees = names_of head.value (head_names M lawful queues t queue w.within cs w.going ts w.tidied head sees.gave sees.there)

  pub tail_named : (tail : Seen) → SeesAt M t (tail_at t queue) tail → NamesNode M t cs queue tail.value
  tail_named tail sees = names_of tail.value (tail_names M lawful queues t queue w.within cs w.going ts w.tidied tail sees.gave sees.there)

  next_ranked : (node : ℕ) (next : Seen) → SeesNext M t cs queue node next → Known M t (λ u h. NamesRank (after_wholes h cs) queue (suc ((after_wholes h cs).words.key_of node)) next.value)
  next_ranked node next sees = next_names M lawful queues t queue w.within cs w.going ts w.tidied next node sees.exists sees.placed sees.at.gave sees.at.there

  pub next_named : (node : ℕ) (next : Seen) → SeesNext M t cs queue node next → next.value ≢ 0 → NamesNode M t cs queue next.value
  next_named node next sees some = names_of next.value (λ u later prepared h of. ⊎_elim (λ zero. absurd (some zero)) (λ named. (named.0, named.1, named.2))
      (next_ranked node next sees u later prepared h of))

  -- and its rank is one more
  pub next_rank : (node : ℕ) (next : Seen) → SeesNext M t cs queue node next → next.value ≢ 0
      → Known M t (λ u h. (after_wholes h cs).words.key_of (linked_node next.value) ≡ suc ((after_wholes h cs).words.key_of node))
  next_rank node next sees some u later prepared h of = ⊎_elim (λ zero. absurd (some zero))
      (λ named. ap (after_wholes h cs).words.key_of (sym (one named.0 named.2)) ∙ named.3)
      (next_ranked node next sees u later prepared h of)
    where
      one : (other : ℕ) → next.value ≡ link other → other ≡ linked_node next.value
      one other is = sym (ap linked_node is ∙ named_link other)

  -- the head and the tail are no node's next word, and counted
  pub head_no_next : (node : ℕ) → ¬ IsNextOf t (head_at t queue) node
  head_no_next node next = head_not_next (shape_in t) queue node w.within next.0 next.1

  pub tail_no_next : (node : ℕ) → ¬ IsNextOf t (tail_at t queue) node
  tail_no_next node next = tail_not_next (shape_in t) queue node w.within next.0 next.1

  pub head_counted : IsCounted (shape_in t) (head_at t queue)
  head_counted = (counted_by_place (shape_in t) (queue_head queue) w.within).1 refl

  pub tail_counted : IsCounted (shape_in t) (tail_at t queue)
  tail_counted = (counted_by_place (shape_in t) (queue_tail queue) w.within).1 refl

  -- the next word of a node of the queue may be looked at
  next_place : (node : ℕ) → IsNode (shape_in t) node → KnowsOf M t cs queue node
      → IsInPlace M t (next_at t node) ⊎ ((n : OwnNode) × Contains t.nodes n × IsNextOf t (next_at t node) n.node)
  next_place node exists placed = ⊎_elim
      (λ known. inl (λ other next. (Queue queue, subst (λ x. KnowsPlaced M t x (Queue queue)) (next_alone (shape_in t) node other exists next.0 next.1) known)))
      (λ own. inr (
        stored_words own.0,
        own_among own.0 own.1,
        (subst (IsNode (shape_in t)) (sym own.2) exists, ap (next_at t) (sym own.2)),
      ))
      (placed_or_own M lawful t cs w.going node (Queue queue) placed)

  module _ (u : TxnState) (on : GoesOn M t u) (seen : Seen) where
    -- a look at a word
    looked_there : (word : ℕ) → Looks M t u word seen → IsInPlace M t word ⊎ ((n : OwnNode) × Contains t.nodes n × IsNextOf t word n.node)
        → SeesAt M u word seen
    looked_there word looks place = record {
      gave = looks.gave;
      there = λ other. ⊎_elim
          (λ placed. inr (looks.met other placed))
          (λ own. there_on M t u on.later word seen (λ _. inl (own.0, own.1, own.2, looks.own_node other own.0 own.1 own.2)) other)
          place;
    }

    pub head_looked : Looks M t u (head_at t queue) seen → SeesAt M u (head_at t queue) seen
    head_looked looks = looked_there (head_at t queue) looks (inl (λ node next. absurd (head_no_next node next)))

    pub tail_looked : Looks M t u (tail_at t queue) seen → SeesAt M u (tail_at t queue) seen
    tail_looked looks = looked_there (tail_at t queue) looks (inl (λ node next. absurd (tail_no_next node next)))

    pub next_looked : (node : ℕ) → KnowsOf M t cs queue node → Looks M t u (next_at t node) seen → u ≡ record t { pass = u.pass } → SeesNext M u cs queue node seen
    next_looked node placed looks same =
        let exists = node_exists node placed in
        let place = next_place node exists placed in
        let sees = looked_there (next_at t node) looks place in
        let shape = ap (λ x. shape_in x) same in
        record {
          exists = subst (λ s. IsNode s node) (sym shape) exists;
          placed = of_on M t u on.later cs queue node placed;
          at = subst (λ s. SeesAt M u (address s (node_next node)) seen) (sym shape) sees;
          found = λ other. ⊎_elim
              (λ there. inr (subst (λ s. FoundNext s u.pass.view node seen.value) (sym shape) (looks.found other there node (exists, refl))))
              (λ own. inl (own.0, subst (λ l. Contains l own.0) (ap (λ x. x.nodes) (sym same)) own.1, sym (next_alone (shape_in t) node own.0.node exists own.2.0 own.2.1)))
              place;
        }
