-- What a transaction sees in a word of a queue: the head and the tail name nodes of the queue, and the next word of a
-- node of the queue is 0 or names one of the next rank, after the ended operations. So it is also for a transaction that
-- can no longer commit.
use Rattle.std.proofs.Common.{◌≡◌, ◌<◌, ℕ, suc, List, Some, Option, refl, sym, ap, ◌∙◌, subst, inl, inr, ⊎_elim}
use Rattle.std.proofs.lemmas.List.Elements.{All-contains}
use Rattle.std.specs.List.{All}
use Rattle.md_words.specs.declared.shape.Shape.{Shape}
use Rattle.md_words.specs.Content.{value_of}
use Rattle.md_words.specs.Layout.{IsNode, address, node_count}
use Rattle.md_words.specs.Place.{node_next, queue_head, queue_tail}
use Rattle.md_machine.specs.declared.certificate.Certificate.{Certificate}
use Rattle.md_machine.specs.declared.certificate.TidyChange.{TidyChange}
use Rattle.md_machine.specs.declared.node.Structure.{Structure}
use Rattle.md_machine.specs.declared.node.Structure.TheVariants.{Queue}
use Rattle.md_machine.specs.Certified.{after_wholes}
use Rattle.md_machine.specs.LogicalHeap.{LogicalHeap}
use Rattle.md_machine.specs.Meaning.{Lawful, Meaning}
use Rattle.md_machine.proofs.chain.Agree.{tidies_shape, wholes_shape}
use Rattle.md_machine.proofs.chain.SameNodes.{next_alone}
use Rattle.md_nbtc_law.specs.declared.seen.Seen.{Seen}
use Rattle.md_nbtc_law.specs.Going.{IsFoundThere, IsGoing, IsUnplaced}
use Rattle.md_nbtc_law.specs.Known.{Known, WasThere, found_by}
use Rattle.md_nbtc_law.specs.Seeing.{Gave}
use Rattle.md_nbtc_law.specs.State.{TxnState, shape_in, writes_in}
use Rattle.md_nbtc_law.specs.Tidied.{HasTidied, tidied}
use Rattle.md_nbtc_law.proofs.preparing.Heaps.{heap_valid}
use Rattle.md_nbtc_law.proofs.structures.NodesKnown.{fact_after, shape_known}
use Rattle.md_nbtc_law.proofs.structures.SeenValues.{seen_or_met}
use Rattle.md_nbtc_law.proofs.structures.StoodThen.{stood_then, tidied_then}
use Rattle.md_nbtc_law.proofs.structures.Tidying.{bare_keys, bare_placed}
use Rattle.md_queue_law.specs.Laws.Words.{head_not_next, tail_not_next}
use Rattle.md_queue_law.specs.QueueCertificates.{has_key}
use Rattle.md_queue_law.specs.QueueMeaning.{HasQueuesOf}
use Rattle.md_queue_law.specs.QueueShape.{IsOf, NamesOneOf}
use Rattle.md_queue_law.specs.Rising.{FoundRanks, NamesRank, QueueRises}
use Rattle.md_queue_law.proofs.RisingAlong.{rises_along, rises_at_first, rises_tidied, seen_ranks_fit}
use Rattle.md_queue.specs.Words.{head_at, next_at, tail_at}
use Rattle.md_queue.proofs.MetInQueues.{met_in_head, met_in_next, met_in_tail, node_fact, placed_then}

module _ (M : Meaning) (lawful : Lawful M) (queues : HasQueuesOf M) (t : TxnState) (queue : ℕ) (within : queue < (shape_in t).queues)
    (cs : List Certificate) (going : IsGoing M t cs) where
  within_there : Known M t (λ u h. queue < h.words.shape.queues)
  within_there u later prepared h of = subst (λ (s : Shape). queue < s.queues) (sym (shape_known M lawful t u later prepared h of)) within

  node_there : Known M t (λ u h. (node : ℕ) → IsOf h queue node → IsNode h.words.shape node)
  node_there u later prepared h of node placed = queues.nodes h node (heap_valid M lawful u h of) (Queue queue, placed)

  -- contents that were found first name nodes with rising ranks
  found_ranks : Known M t (λ u h. FoundRanks t.reads (writes_in t) h queue)
  found_ranks u later prepared h of =
      let shape = shape_known M lawful t u later prepared h of in
      let w = within_there u later prepared h of in
      record {
        head = λ content first. ⊎_elim
            (λ own. absurd (head_not_next (shape_in t) queue own.0.node within own.2.0 (ap (λ (s : Shape). address s (queue_head queue)) (sym shape) ∙ own.2.1)))
            (λ met. met_in_head M queues h queue w (value_of content) (met u later prepared h of))
            (going.first (address h.words.shape (queue_head queue)) content first);
        tail = λ content first. ⊎_elim
            (λ own. absurd (tail_not_next (shape_in t) queue own.0.node within own.2.0 (ap (λ (s : Shape). address s (queue_tail queue)) (sym shape) ∙ own.2.1)))
            (λ met. met_in_tail M queues h queue w (value_of content) (met u later prepared h of))
            (going.first (address h.words.shape (queue_tail queue)) content first);
        next = λ node content placed first.
            let exists = node_there u later prepared h of node placed in
            ⊎_elim
            (λ own.
            let same = next_alone (shape_in t) node own.0.node (subst (λ (s : Shape). IsNode s node) shape exists) own.2.0
            (ap (λ (s : Shape). address s (node_next node)) (sym shape) ∙ own.2.1) in
            let free = (All-contains (IsUnplaced M t) t.nodes own.0 going.nodes own.1).unplaced u later prepared h of in
            absurd (cc (free, placed, same)))
            (λ met. met_in_next M queues h queue w node (value_of content) exists (met u later prepared h of) placed)
            (going.first (address h.words.shape (node_next node)) content first);
      }

  module _ (ts : List TidyChange) (has : HasTidied M t cs ts) where
    -- so ranks rise along all links that the transaction leaves
    pub queue_rises : Known M t (λ u h. QueueRises (tidied (found_by t h) cs ts) (tidied h cs ts) queue)
    queue_rises u later prepared h of =
        let shape = shape_known M lawful t u later prepared h of in
        let after = wholes_shape h cs ∙ shape in
        let first = rises_at_first M queues h queue t.reads (writes_in t) (heap_valid M lawful u h of) (within_there u later prepared h of) (found_ranks u later prepared h of) in
        let along = rises_along M queues (found_by t h) h queue cs (within_there u later prepared h of)
        (subst (λ s. All (M.certifies s) cs) (sym shape) going.course.certifies)
        (subst (λ s. All (λ (c : Certificate). All (M.tidies s) c.tidy) cs) (sym shape) going.course.tidies)
        (stood_then M t cs going.course u later prepared h of) first in
        rises_tidied M queues (after_wholes (found_by t h) cs) (after_wholes h cs) queue ts
        (subst (λ (s : Shape). queue < s.queues) (sym after) within)
        (subst (λ s. All (M.tidies s) ts) (sym after) has.tidies)
        (tidied_then M t cs going.course ts has u later prepared h of) along

    -- a rank is below the number of nodes
    pub rank_fits : (node : ℕ) → Known M t (λ u h. IsOf (after_wholes h cs) queue node) → Known M t (λ u h. (after_wholes h cs).words.key_of node < node_count (shape_in t))
    rank_fits node placed u later prepared h of =
        let rises = queue_rises u later prepared h of in
        let shape = tidies_shape (after_wholes h cs) ts ∙ wholes_shape h cs ∙ shape_known M lawful t u later prepared h of in
        let there = ap (λ (f : ℕ → Option Structure). f node) (bare_placed (after_wholes h cs) ts has.bare) ∙ placed u later prepared h of in
        let fits = seen_ranks_fit (tidied (found_by t h) cs ts) (tidied h cs ts) queue node rises (rises.nodes.placed node ∙ there) in
        let key = rises.nodes.key_of node ∙ ap (λ (f : ℕ → ℕ). f node) (bare_keys (after_wholes h cs) ts has.bare) in
        subst (λ k. k < node_count (shape_in t)) key
        (subst (λ (s : Shape). (tidied (found_by t h) cs ts).words.key_of node < node_count s) shape fits)

    -- what a value names in the heap it names after the ended operations
    still_ranked : Known M t (λ u h. (node : ℕ) → IsOf h queue node → IsOf (after_wholes h cs) queue node × ((after_wholes h cs).words.key_of node ≡ h.words.key_of node))
    still_ranked u later prepared h of node placed =
        let exists = subst (λ (s : Shape). IsNode s node) (shape_known M lawful t u later prepared h of) (node_there u later prepared h of node placed) in
        let after = fact_after M lawful t cs going u later prepared h of (has_key queue node (h.words.key_of node)) refl exists
        (record { placed = placed; key = refl; value = tt; next = tt }) in
        (after.placed, after.key)

    -- and so it does with the tidy changes
    before_of : (h : LogicalHeap) (node : ℕ) → IsOf (tidied h cs ts) queue node → IsOf (after_wholes h cs) queue node
    before_of h node placed = ap (λ (f : ℕ → Option Structure). f node) (sym (bare_placed (after_wholes h cs) ts has.bare)) ∙ placed

    -- a node of the queue in whose next word a value was met was one of the queue then, and is one
    pub met_node : (node value : ℕ) → IsNode (shape_in t) node → Known M t (λ u h. IsOf (after_wholes h cs) queue node)
        → Known M t (λ u h. (was : WasThere M h (address h.words.shape (node_next node)) value) → IsOf was.heap queue node × IsOf h queue node)
    met_node node value exists placed u later prepared h of was =
        let is_node = subst (λ (s : Shape). IsNode s node) (sym (shape_known M lawful t u later prepared h of)) exists in
        let root = placed_then M queues h queue (within_there u later prepared h of) (address h.words.shape (node_next node)) value was node is_node refl in
        let after = (fact_after M lawful t cs going u later prepared h of (node_fact root.0 node) refl exists (record { placed = root.2; key = tt; value = tt; next = tt })).placed in
        let now = placed u later prepared h of in
        let same : root.0 ≡ Queue queue = cc (after, now) in
        (subst (λ s. was.heap.placed node ≡ Some s) same root.1, subst (λ s. h.placed node ≡ Some s) same root.2)

    module _ (seen : Seen) where
      -- what is seen in the head names a node of the queue
      pub head_names : Gave t (head_at t queue) seen → IsFoundThere M t (head_at t queue) seen → Known M t (λ u h. NamesOneOf (after_wholes h cs) queue seen.value)
      head_names gave there = ⊎_elim
          (λ known u later prepared h of.
          let rise = (queue_rises u later prepared h of).there in
          let shape = tidies_shape (after_wholes h cs) ts ∙ wholes_shape h cs ∙ shape_known M lawful t u later prepared h of in
          let is = ap (λ (s : Shape). (tidied h cs ts).words.value (address s (queue_head queue))) shape ∙ known u later prepared h of in
          let named = rise.head in
          (named.0, before_of h named.0 named.1, sym is ∙ named.2))
          (λ met u later prepared h of.
          let named = met_in_head M queues h queue (within_there u later prepared h of) seen.value
          (subst (λ (s : Shape). WasThere M h (address s (queue_head queue)) seen.value) (sym (shape_known M lawful t u later prepared h of)) (met u later prepared h of)) in
          (named.0, (still_ranked u later prepared h of named.0 named.1).0, named.2))
          (seen_or_met M lawful t cs going ts has (head_at t queue) seen gave there)

      -- and so does what is seen in the tail
      pub tail_names : Gave t (tail_at t queue) seen → IsFoundThere M t (tail_at t queue) seen → Known M t (λ u h. NamesOneOf (after_wholes h cs) queue seen.value)
      tail_names gave there = ⊎_elim
          (λ known u later prepared h of.
          let rise = (queue_rises u later prepared h of).there in
          let shape = tidies_shape (after_wholes h cs) ts ∙ wholes_shape h cs ∙ shape_known M lawful t u later prepared h of in
          let is = ap (λ (s : Shape). (tidied h cs ts).words.value (address s (queue_tail queue))) shape ∙ known u later prepared h of in
          let named = rise.tail in
          (named.0, before_of h named.0 named.1, sym is ∙ named.2))
          (λ met u later prepared h of.
          let named = met_in_tail M queues h queue (within_there u later prepared h of) seen.value
          (subst (λ (s : Shape). WasThere M h (address s (queue_tail queue)) seen.value) (sym (shape_known M lawful t u later prepared h of)) (met u later prepared h of)) in
          (named.0, (still_ranked u later prepared h of named.0 named.1).0, named.2))
          (seen_or_met M lawful t cs going ts has (tail_at t queue) seen gave there)

      -- what is seen in the next word of a node of the queue is 0, or names a node of the next rank
      pub next_names : (node : ℕ) → IsNode (shape_in t) node → Known M t (λ u h. IsOf (after_wholes h cs) queue node)
          → Gave t (next_at t node) seen → IsFoundThere M t (next_at t node) seen
          → Known M t (λ u h. NamesRank (after_wholes h cs) queue (suc ((after_wholes h cs).words.key_of node)) seen.value)
      next_names node exists placed gave there = ⊎_elim
          (λ known u later prepared h of.
          let rise = (queue_rises u later prepared h of).there in
          let shape = tidies_shape (after_wholes h cs) ts ∙ wholes_shape h cs ∙ shape_known M lawful t u later prepared h of in
          let is = ap (λ (s : Shape). (tidied h cs ts).words.value (address s (node_next node))) shape ∙ known u later prepared h of in
          let here = ap (λ (f : ℕ → Option Structure). f node) (bare_placed (after_wholes h cs) ts has.bare) ∙ placed u later prepared h of in
          let keys = bare_keys (after_wholes h cs) ts has.bare in
          ⊎_elim (λ zero. inl (sym is ∙ zero))
          (λ named. inr (
            named.0,
            before_of h named.0 named.1,
            sym is ∙ named.2,
            ap (λ (f : ℕ → ℕ). f named.0) (sym keys) ∙ named.3 ∙ ap (λ (f : ℕ → ℕ). suc (f node)) keys,
          ))
          (rise.next node here))
          (λ met u later prepared h of.
          let shape = shape_known M lawful t u later prepared h of in
          let is_node = subst (λ (s : Shape). IsNode s node) (sym shape) exists in
          let was = subst (λ (s : Shape). WasThere M h (address s (node_next node)) seen.value) (sym shape) (met u later prepared h of) in
          let in_queue = (met_node node seen.value exists placed u later prepared h of was).1 in
          let key = (still_ranked u later prepared h of node in_queue).1 in
          ⊎_elim inl
          (λ named.
          let stays = still_ranked u later prepared h of named.0 named.1 in
          inr (named.0, stays.0, named.2, stays.1 ∙ named.3 ∙ ap suc (sym key)))
          (met_in_next M queues h queue (within_there u later prepared h of) node seen.value is_node was in_queue))
          (seen_or_met M lawful t cs going ts has (next_at t node) seen gave there)
