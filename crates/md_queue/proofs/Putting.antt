-- A new node is put behind the last one: when that may be done, and its certificate.
use Rattle.std.proofs.Common.{◌≡◌, ◌<◌, ◌+◌, ◌*◌, ◌^◌, ◌++◌, ℕ, true, false, List, [], ◌∷◌, Option, Some, None, refl, sym, ap, ◌∙◌, subst, inl, inr, ⊎_elim, IfSome, arith, is_some}
use Rattle.std.proofs.lemmas.Bool.{true≢false}
use Rattle.std.proofs.lemmas.List.Elements.{All-contains, All-cons, All-nil, Contains-append_cases, Contains-append_right}
use Rattle.std.specs.List.{Contains}
use Rattle.md_words.specs.declared.shape.Shape.{Shape}
use Rattle.md_words.specs.Layout.{IsNode, address, node_count}
use Rattle.md_words.specs.Link.{is_marked, link_value, linked_node}
use Rattle.md_words.specs.Place.{node_next, queue_tail}
use Rattle.md_words.proofs.Places.{counted_by_place}
use Rattle.md_history.specs.declared.acts.Op.TheVariants.{Enqueue}
use Rattle.md_history.specs.declared.acts.Reply.TheVariants.{Nothing}
use Rattle.md_machine.specs.declared.attempt.Write.{Write}
use Rattle.md_machine.specs.declared.certificate.Certificate.{Certificate}
use Rattle.md_machine.specs.declared.certificate.Change.{Change}
use Rattle.md_machine.specs.declared.certificate.NewNode.{NewNode}
use Rattle.md_machine.specs.declared.certificate.TidyChange.{TidyChange}
use Rattle.md_machine.specs.declared.certificate.WordValue.{WordValue}
use Rattle.md_machine.specs.declared.node.PlacedNode.{PlacedNode}
use Rattle.md_machine.specs.declared.node.Structure.{Structure}
use Rattle.md_machine.specs.declared.node.Structure.TheVariants.{Queue}
use Rattle.md_machine.specs.Certified.{after_wholes, all_changes, all_nodes, first_content, is_written, placed_by}
use Rattle.md_machine.specs.LogicalHeap.{Holds}
use Rattle.md_machine.specs.Meaning.{Lawful, Meaning}
use Rattle.md_machine.specs.clauses.passes.Alone.{HoldsAll}
use Rattle.md_machine.proofs.chain.SameNodes.{next_alone, next_counted}
use Rattle.md_machine.proofs.lists.Rising.{here, in_cons, in_map, in_none, map_in}
use Rattle.md_nbtc_law.specs.declared.seen.Cleanup.{Cleanup}
use Rattle.md_nbtc_law.specs.declared.seen.Cleanup.TheVariants.{MoveTail, Unlink}
use Rattle.md_nbtc_law.specs.declared.seen.Kind.TheVariants.{Critical}
use Rattle.md_nbtc_law.specs.declared.seen.Seen.{Seen}
use Rattle.md_nbtc_law.specs.declared.slots.Slot.{Slot}
use Rattle.md_nbtc_law.specs.Calls.{Freshens, GoesOn, Keeps, MayExchange, new_slot}
use Rattle.md_nbtc_law.specs.Cleaning.{FitsCleanup, IsFactLater, IsKeptCleanup, IsPlacedIn, IsWrittenFor, MayTidyLater, with_cleanup_kept}
use Rattle.md_nbtc_law.specs.Course.{IsStoredNode}
use Rattle.md_nbtc_law.specs.Going.{IsGoing}
use Rattle.md_nbtc_law.specs.Known.{IsLater, Known, KnowsPlaced, found_by}
use Rattle.md_nbtc_law.specs.Seeing.{Gave, IsOwnPlaced, KeepsGiven, MayChange}
use Rattle.md_nbtc_law.specs.Sets.{with_new}
use Rattle.md_nbtc_law.specs.State.{OwnNode, TxnState, seen_content, shape_in, writes_in}
use Rattle.md_nbtc_law.specs.Tidied.{tidied}
use Rattle.md_nbtc_law.proofs.preparing.Heaps.{known_now, later_self}
use Rattle.md_nbtc_law.proofs.preparing.Later.{later_over}
use Rattle.md_nbtc_law.proofs.ready.Lookups.{all_of, one_of, written_there}
use Rattle.md_nbtc_law.proofs.structures.Exchanging.{HasExchanged, changed_own, changed_plainly, installed, may_exchange_so}
use Rattle.md_nbtc_law.proofs.structures.FoundLater.{found_later}
use Rattle.md_nbtc_law.proofs.structures.NodesKnown.{data_known, own_known, placed_or_own, shape_later}
use Rattle.md_nbtc_law.proofs.structures.SeenValues.{seen_value}
use Rattle.md_nbtc_law.proofs.structures.Tidying.{bare_holds}
use Rattle.md_queue_law.specs.Laws.Words.{link_not_zero, tail_not_next}
use Rattle.md_queue_law.specs.QueueCertificates.{CertifiesQueue, has_key, has_next, new_node, next_change}
use Rattle.md_queue_law.specs.QueueMeaning.{HasQueuesOf}
use Rattle.md_queue_law.specs.QueueShape.{IsOf, link}
use Rattle.md_queue.specs.Operations.{RecordsAmong}
use Rattle.md_queue.specs.Refusals.{WasToChange}
use Rattle.md_queue.specs.Words.{next_at, tail_at}
use Rattle.md_queue.specs.Working.{IsWorking, KnowsOf, SeesEnd, SeesNext}
use Rattle.md_queue.proofs.Alone.{alone_sees, seen_stands}
use Rattle.md_queue.proofs.Among.{AnswersBy}
use Rattle.md_queue.proofs.Charging.{charged_on}
use Rattle.md_queue.proofs.Changing.{changing, exchanged_first, exchanged_hand, exchanged_nodes, exchanged_own, may_end_changing}
use Rattle.md_queue.proofs.FreshNode.{apart_from_fresh, fresh_after, fresh_unwritten, own_placed}
use Rattle.md_queue.proofs.Passing.{next_on, of_on, working_on}
use Rattle.md_queue.proofs.Ranks.{rank_fits}
use Rattle.md_queue.proofs.Slots.{renewed_keeps}
use Rattle.md_queue.proofs.Standing.{behind, would_stand}

-- a link as the code makes it
pub double_is : (node : ℕ) → node * 2 ≡ link node
unfolding link_value
double_is node = omega arith

-- a cleanup fits no next word that is 0
pub zero_fits_none : (c : Cleanup) (value : ℕ) → value ≡ 0 → ¬ FitsCleanup c value
unfolding is_marked
zero_fits_none (Unlink prev node) value zero fits = let marked = ap is_marked (sym zero) ∙ fits in cc marked
zero_fits_none (MoveTail tail from to) value zero fits = fits.1 zero

module _ (M : Meaning) (lawful : Lawful M) (t : TxnState) (queue : ℕ) (cs : List Certificate) (going : IsGoing M t cs) (node : ℕ) (exists : IsNode (shape_in t) node) (placed : KnowsOf M t cs queue node) where
  -- the next word of a node of the queue may be changed
  pub next_may_change : MayChange M t (next_at t node)
  next_may_change other next =
      let same = next_alone (shape_in t) node other exists next.0 next.1 in
      ⊎_elim
      (λ known. inl (Queue queue, subst (λ x. KnowsPlaced M t x (Queue queue)) same known))
      (λ own. inr (subst (IsOwnPlaced t) (own.2 ∙ same) (own_placed M t cs going own.0 own.1)))
      (placed_or_own M lawful t cs going node (Queue queue) placed)

  -- it is known to be placed, or was placed by an ended operation
  pub placed_in : IsPlacedIn M t cs node (Queue queue)
  placed_in = ⊎_elim inl
      (λ own.
      let both = known_now M lawful (λ u h. IsOf (after_wholes h cs) queue node × ((after_wholes h cs).placed own.0.node ≡ Some own.0.structure)) t cs going
      (λ u later prepared h of. (placed u later prepared h of, (own_known M lawful t cs going own.0 own.1 u later prepared h of).placed)) in
      let is_queue = one_structure own.0.structure ((after_wholes both.0 cs).placed node) both.2.0 (ap (after_wholes both.0 cs).placed (sym own.2) ∙ both.2.1) in
      inr (subst (λ (p : PlacedNode). Contains (placed_by cs) p) (placed_as own.0 is_queue own.2) (map_in (λ (n : NewNode). record { node = n.node; structure = n.structure }) (all_nodes cs) own.0 own.1)))
      (placed_or_own M lawful t cs going node (Queue queue) placed)
    where
      one_structure : (r : Structure) (o : Option Structure) → o ≡ Some (Queue queue) → o ≡ Some r → Queue queue ≡ r
      one_structure r o a b = cc (a, b)

      placed_as : (n : NewNode) → Queue queue ≡ n.structure → n.node ≡ node → (let p : PlacedNode = record { node = n.node; structure = n.structure } in p) ≡ record { node = node; structure = Queue queue }
      placed_as n s same = ap (λ x. record { node = x; structure = n.structure }) same ∙ ap (λ x. record { node = node; structure = x }) (sym s)

  -- the move of the tail past it may be put off
  pub may_move_later : HasQueuesOf M → queue < (shape_in t).queues → (to : ℕ) → MayTidyLater M t cs (MoveTail (tail_at t queue) node to)
  may_move_later queues within to = record {
    counted = (counted_by_place (shape_in t) (queue_tail queue) within).1 refl;
    place = λ other next. absurd (tail_not_next (shape_in t) queue other within next.0 next.1);
    of = (queue, placed_in);
    tidies = λ next fits. record {
      tidy = record { change = record { word = tail_at t queue; old = link node; new = next }; nodes = []; facts = has_next queue node next ∷ [] };
      bare = refl;
      change = refl;
      tidies = queues.tidies (shape_in t) (record { change = record { word = tail_at t queue; old = link node; new = next }; nodes = []; facts = has_next queue node next ∷ [] }) (record {
        queue = queue;
        from = node;
        to = to;
        within = within;
        change = ap (λ v. record { word = tail_at t queue; old = link node; new = v }) fits.0;
        nodes = refl;
        facts = ap (λ v. has_next queue node v ∷ []) fits.0;
      });
      facts = All-cons (IsFactLater M t cs node next) (has_next queue node next) [] (record { placed = placed_in; key = refl; value = refl; of_next = inr (refl, refl) }) (All-nil (IsFactLater M t cs node next));
    };
  }

-- the last node was found, and its rank
pub record IsPutting (M : Meaning) (t : TxnState) (queue : ℕ) (cs : List Certificate) (node rank : ℕ) (next : Seen) : Type 0 where
  pub changes : List TidyChange
  pub working : IsWorking M t queue cs changes
  pub sees : SeesNext M t cs queue node next
  pub zero : next.value ≡ 0
  pub ranked : Known M t (λ u h. Holds (after_wholes h cs) (has_key queue node rank))

module _ (M : Meaning) (lawful : Lawful M) (queues : HasQueuesOf M) (queue : ℕ) (cs : List Certificate) (next : Seen) where
  pub putting : (t u : TxnState) (tail : Seen) (least : ℕ) (s : SeesEnd M t queue cs tail next least) → next.value ≡ 0 → GoesOn M t u → u ≡ record t { pass = u.pass }
      → ((other : ℕ) → KeepsGiven t u other) → (rank : ℕ) → Known M u (λ v h. h.words.key_of (linked_node tail.value) ≡ rank) → IsPutting M u queue cs (linked_node tail.value) rank next
  putting t u tail least s zero on same given rank is =
      let st = s.sees_tail in
      let node = linked_node tail.value in
      let w = working_on M t u on.later queue cs st.changes on (ap (λ x. x.hand) same) st.working in
      let sees = next_on M t u on.later cs queue node next s.next_sees
      (given (tail_at t queue) (next_at t node) next (λ e. tail_not_next (shape_in t) queue node st.working.within s.next_sees.exists (sym e)) s.next_sees.at.gave) in
      record {
        changes = st.changes;
        working = w;
        sees = sees;
        zero = zero;
        ranked = data_known M lawful u cs w.going node (Queue queue) (Some rank) None sees.exists sees.placed is (λ v later prepared h of. tt);
      }

  module _ (t : TxnState) (node rank : ℕ) (p : IsPutting M t queue cs node rank next) where
    abbrev ts : List TidyChange
    ts = p.changes

    pub rank_low : rank < node_count (shape_in t)
    rank_low =
        let both = known_now M lawful (λ u h. Holds (after_wholes h cs) (has_key queue node rank) × ((after_wholes h cs).words.key_of node < node_count (shape_in t))) t cs p.working.going
        (λ u later prepared h of. (
          p.ranked u later prepared h of,
          rank_fits M lawful queues t queue p.working.within cs p.working.going ts p.working.tidied node p.sees.placed u later prepared h of,
        )) in
        subst (λ k. k < node_count (shape_in t)) both.2.0.key both.2.1

    module _ (u : TxnState) (on : GoesOn M t u) (value new : ℕ) (f : Freshens t u (rank + 1) value 0 new) (given : KeepsGiven t u (next_at t new)) where
      abbrev own : OwnNode
      own = record { node = new; key = rank + 1; value = value; next = 0 }

      going_then : IsGoing M u cs
      going_then = on.going cs p.working.going

      own_among : Contains u.nodes own
      own_among = subst (λ (x : TxnState). Contains x.nodes own) (sym f.new) (Contains-append_right t.nodes (own ∷ []) own (here own []))

      stored_is : u.hand.stored ≡ new ∷ []
      stored_is = ap (λ (x : TxnState). x.hand.stored) f.new ∙ ap (λ l. l ++ new ∷ []) p.working.tidied.stored

      own_stored : Contains u.hand.stored new
      own_stored = subst (λ l. Contains l new) (sym stored_is) (here new [])

      exists_then : IsNode (shape_in u) node
      exists_then = subst (λ (s : Shape). IsNode s node) (sym (shape_later t u on.later)) p.sees.exists

      may_change_then : MayChange M u (next_at u node)
      may_change_then = next_may_change M lawful u queue cs going_then node exists_then (of_on M t u on.later cs queue node p.sees.placed)

      -- what was seen in the last node's next word stays
      pub sees_then : SeesNext M u cs queue node next
      sees_then =
          let shape = shape_later t u on.later in
          next_on M t u on.later cs queue node next p.sees (given (next_at t node) next
          (λ e. apart_from_fresh M lawful u cs going_then own own_among own_stored (next_at u node) may_change_then
          (ap (λ (s : Shape). address s (node_next node)) shape ∙ e ∙ ap (λ (s : Shape). address s (node_next new)) (sym shape)))
          p.sees.at.gave)

      slot_zero : (s : Slot) → Contains u.slots s → s.write.word ≡ next_at u node → (to : ℕ) → (o : Option Cleanup) → IfSome o (IsKeptCleanup M u cs s.write) → IfSome o (λ c. FitsCleanup c to)
      slot_zero s among is to None kept = tt
      slot_zero s among is to (Some c) kept =
          let at = sees_then.at.gave in
          let slot = at.slot (at.own ∙ is_own s among is) in
          let same = one_of (λ (w : Write). w.word) (writes_in u) going_then.prepared.has.written_once s.write slot.write (map_in (λ (x : Slot). x.write) u.slots s among) slot.among
          (is ∙ sym slot.there) in
          absurd (zero_fits_none c s.write.new (ap (λ (w : Write). w.new) same ∙ slot.value ∙ p.zero) kept.fits)
        where
          is_own : (s : Slot) → Contains u.slots s → s.write.word ≡ next_at u node → is_written (writes_in u) (next_at u node) ≡ true
          is_own s among is = written_there (writes_in u) s.write (map_in (λ (x : Slot). x.write) u.slots s among) (next_at u node) is

      -- so it keeps no cleanup
      slot_bare : (s : Slot) → Contains u.slots s → s.write.word ≡ next_at u node → s.cleanup ≡ None
      slot_bare s among is = by_kept s.cleanup refl
        where
          by_kept : (o : Option Cleanup) → s.cleanup ≡ o → s.cleanup ≡ None
          by_kept None same = same
          by_kept (Some c) same = absurd (zero_fits_none c 0 refl (slot_zero s among is 0 (Some c)
              (subst (λ o. IfSome o (IsKeptCleanup M u cs s.write)) same (All-contains (λ (x : Slot). IfSome x.cleanup (IsKeptCleanup M u cs x.write)) u.slots s going_then.cleanups among))))

      -- so the new node may be put there
      pub may_put : (to : ℕ) → MayExchange M u (next_at u node) next to Critical
      may_put to = record {
        operates = ap (λ (x : TxnState). x.hand.operating) f.new ∙ p.working.operates;
        counted = next_counted (shape_in u) node exists_then;
        gave = sees_then.at.gave;
        of = may_exchange_so M u (next_at u node) next to Critical
            (λ written. all_of (λ (s : Slot). s.write.word ≡ next_at u node → IfSome s.cleanup (λ c. FitsCleanup c to)) u.slots
            (λ s among is. slot_zero s among is to s.cleanup (All-contains (λ (x : Slot). IfSome x.cleanup (IsKeptCleanup M u cs x.write)) u.slots s going_then.cleanups among)))
            may_change_then
            (λ unwritten. sees_then.at.there (sees_then.at.gave.own ∙ unwritten))
            (λ unwritten plain. absurd (true≢false plain));
      }

      -- if that is refused by the limit of writes, the value would be put next
      pub was_to_put : (before : TxnState) → RecordsAmong before u [] → HoldsAll (shape_in u) u.pass.view → next.count < 2 ^ 32 → is_written (writes_in u) (next_at u node) ≡ false → WasToChange M u cs before (Enqueue queue value)
      was_to_put before among all fits unwritten =
          let w = p.working in
          let shape = shape_later t u on.later in
          let prepared = going_then.prepared in
          let change = next_change (shape_in u) node 0 (link new) in
          let new_one = new_node queue new (rank + 1) value in
          let fact = has_key queue node rank in
          let at_u = ap (λ (s : Shape). address s (node_next node)) (sym shape) in
          record {
            certificate = behind ts (Enqueue queue value) Nothing [] (change ∷ []) (new_one ∷ []) (fact ∷ []);
            last = change;
            op_is = refl;
            changes = ap (λ l. l ++ change ∷ []) (w.tidied.changes ∙ ap (λ (x : TxnState). x.hand.changes) (sym f.new));
            among = among;
            unwritten = unwritten;
            would = λ h of. would_stand M queues t queue cs ts w u on.later prepared h of (Enqueue queue value) Nothing [] (change ∷ []) (new_one ∷ []) (fact ∷ []) (
              subst (λ (s : Shape). queue < s.queues) (sym shape) w.within,
              record { last = node; rank = rank; node = new; exists = subst (λ (s : Shape). IsNode s new) (sym shape) f.exists; reply = refl; recorded = refl; changes = refl; nodes = refl; facts = refl },
            )
                (All-nil (λ (r : WordValue). (tidied (found_by u h) cs ts).words.value r.word ≡ r.value))
                (All-cons (λ (c : Change). (tidied (found_by u h) cs ts).words.value c.word ≡ c.old) change []
                (subst (λ a. (tidied (found_by u h) cs ts).words.value a ≡ 0) at_u
                (seen_stands M lawful t cs w.going ts w.tidied u on.later prepared h of (next_at t node) next p.sees.at
                (λ other. subst (λ a. (found_by u h).words.value a ≡ next.value) (sym at_u) (alone_sees M u prepared all h of (next_at u node) next sees_then.at.gave fits other)) ∙ p.zero))
                (All-nil (λ (c : Change). (tidied (found_by u h) cs ts).words.value c.word ≡ c.old)))
                (All-cons (Holds (tidied h cs ts)) fact [] (bare_holds (after_wholes h cs) ts w.tidied.bare fact refl (p.ranked u on.later prepared h of)) (All-nil (Holds (tidied h cs ts))))
                (All-cons (λ (n : NewNode). (tidied h cs ts).placed n.node ≡ None) new_one []
                (fresh_after M lawful u cs going_then own own_among own_stored ts w.tidied.bare u (later_self u) prepared h of)
                (All-nil (λ (n : NewNode). (tidied h cs ts).placed n.node ≡ None)));
          }

      module _ (v : TxnState) (over : GoesOn M u v) (seen : Seen) (gave : Gave v (next_at u node) seen) (ex : HasExchanged M u (next_at u node) next (link new) Critical v seen) where
        -- and the move of the tail be put off
        pub may_keep : MayTidyLater M v cs (MoveTail (tail_at v queue) node new)
        may_keep =
            let shape = shape_later u v over.later ∙ shape_later t u on.later in
            may_move_later M lawful v queue cs (over.going cs going_then) node (subst (λ (s : Shape). IsNode s node) (sym shape) p.sees.exists)
            (of_on M t v (later_over t u v on.later over.later) cs queue node p.sees.placed) queues (subst (λ (s : Shape). queue < s.queues) (sym shape) p.working.within) new

        -- no cleanup was kept with that word
        put_bare : HasExchanged M u (next_at u node) next (link new) Critical v seen → (s : Slot) → Contains v.slots s → s.write.word ≡ next_at u node → s.cleanup ≡ None
        put_bare (changed_own e) s among is =
            let old = in_map (with_new (next_at u node) (link new)) u.slots s (subst (λ l. Contains l s) (ap (λ (x : TxnState). x.slots) e.state_is) among) in
            let keeps = renewed_keeps (next_at u node) (link new) old.0 in
            ap (λ (x : Slot). x.cleanup) (sym old.2) ∙ keeps.1 ∙ slot_bare old.0 old.1 (sym keeps.0 ∙ ap (λ (x : Slot). x.write.word) old.2 ∙ is)
        put_bare (installed e) s among is =
            let slot = new_slot u (next_at u node) next (link new) in
            ⊎_elim
            (λ before. slot_bare s before is)
            (λ last. ⊎_elim (λ same. ap (λ (x : Slot). x.cleanup) (sym same)) (λ none. absurd (in_none s none)) (in_cons slot [] s last))
            (Contains-append_cases u.slots (slot ∷ []) s (subst (λ l. Contains l s) (ap (λ (x : TxnState). x.slots) e.state_is) among))
        put_bare (changed_plainly e) s among is = absurd (true≢false e.plain)

        pub bare_then : (s : Slot) → Contains v.slots s → s.write.word ≡ next_at v node → s.cleanup ≡ None
        bare_then s among is = put_bare ex s among (is ∙ ap (λ (x : Shape). address x (node_next node)) (shape_later u v over.later))

        seen_own : (seen.own ≡ true) × (seen.value ≡ link new)
        seen_own = exchanged_own M u v (next_at u node) next (link new) seen ex

        pub written_for : IsWrittenFor v (MoveTail (tail_at v queue) node new)
        written_for =
            let shape = shape_later u v over.later in
            let slot = gave.slot seen_own.0 in
            let is = slot.value ∙ seen_own.1 in
            record {
              exists = subst (λ (s : Shape). IsNode s node) (sym shape) exists_then;
              write = slot.write;
              among = slot.among;
              there = slot.there ∙ ap (λ (s : Shape). address s (node_next node)) (sym shape);
              fits = (is, λ zero. link_not_zero (shape_in t) new f.exists (sym is ∙ zero));
            }

        module _ (x : TxnState) (keeps : Keeps M v x (MoveTail (tail_at v queue) node new)) (kept : x ≡ record v { slots = with_cleanup_kept v (MoveTail (tail_at v queue) node new) }) (fits : next.count < 2 ^ 32) where
          going_last : IsGoing M x cs
          going_last = keeps.going cs (over.going cs going_then) may_keep

          later_last : IsLater t x
          later_last = later_over t u x on.later (later_over u v x over.later keeps.later)

          -- the operation may be ended
          pub may_answer_put : AnswersBy M x cs (Enqueue queue value) Nothing []
          may_answer_put =
              let shape = shape_later t x later_last in
              let shape_v = shape_later u v over.later ∙ shape_later t u on.later in
              let w = p.working in
              let change = next_change (shape_in x) node 0 (link new) in
              let new_one = new_node queue new (rank + 1) value in
              let fact = has_key queue node rank in
              let c = changing (Enqueue queue value) Nothing ts [] change (new_one ∷ []) (fact ∷ []) in
              let hand = ap (λ (y : TxnState). y.hand) kept ∙ exchanged_hand M u v (next_at u node) next (link new) seen ex in
              let nodes_x = ap (λ (y : TxnState). y.nodes) kept ∙ exchanged_nodes M u v (next_at u node) next (link new) seen ex in
              let among = subst (λ l. Contains l own) (sym nodes_x) own_among in
              let stored = ap (λ h. h.stored) hand ∙ stored_is in
              let in_stored = subst (λ l. Contains l new) (sym stored) (here new []) in
              let at_x = ap (λ (s : Shape). address s (node_next node)) (sym shape) in
              let certifies : CertifiesQueue (shape_in x) c = (
                subst (λ (s : Shape). queue < s.queues) (sym shape) w.within,
                record { last = node; rank = rank; node = new; exists = subst (λ (s : Shape). IsNode s new) (sym shape) f.exists; reply = refl; recorded = refl; changes = refl; nodes = refl; facts = refl },
              ) in
              record {
                certificate = c;
                of = (refl, refl);
                may = may_end_changing M t cs ts w.tidied x later_last (Enqueue queue value) Nothing [] change (new_one ∷ []) (fact ∷ [])
                    (queues.certifies (shape_in x) c certifies)
                    (ap (λ h. h.changes) hand ∙ ap (λ (y : TxnState). y.hand.changes ++ record { word = next_at u node; old = next.value; new = link new } ∷ []) f.new
                    ∙ ap (λ (d : Change). t.hand.changes ++ d ∷ [])
                    (ap (λ a. record { word = a; old = next.value; new = link new }) (ap (λ (s : Shape). address s (node_next node)) (shape_later t u on.later) ∙ at_x)
                    ∙ ap (λ o. record { word = next_at x node; old = o; new = link new }) p.zero))
                    (sym stored)
                    (All-cons (IsStoredNode x) new_one [] (record { own = among; unsettled = refl }) (All-nil (IsStoredNode x)))
                    (All-cons (λ (n : NewNode). is_written (writes_in x) (address (shape_in x) (node_next n.node)) ≡ false) new_one [] (fresh_unwritten M lawful x cs going_last own among in_stored)
                    (All-nil (λ (n : NewNode). is_written (writes_in x) (address (shape_in x) (node_next n.node)) ≡ false)))
                    (All-nil (λ (r : WordValue). is_some (first_content x.reads (writes_in x) r.word) ≡ true))
                    (λ y after prepared h of. All-nil (λ (r : WordValue). (tidied (found_by y h) cs ts).words.value r.word ≡ r.value))
                    (λ y after prepared h of. subst (λ a. (tidied (found_by y h) cs ts).words.value a ≡ 0) at_x
                    (seen_value M lawful t cs w.going ts w.tidied (next_at t node) next p.sees.at.gave p.sees.at.there fits x later_last
                    (λ other. subst (λ a. first_content x.reads (writes_in x) a ≡ Some (seen_content next)) (ap (λ (s : Shape). address s (node_next node)) (shape_later t u on.later))
                    (found_later v x keeps.later going_last.prepared (next_at u node) (seen_content next)
                    (exchanged_first M u v (next_at u node) next (link new) seen ex (over.going cs going_then).prepared sees_then.at.gave other))) y after prepared h of ∙ p.zero))
                    (λ y after prepared h of. All-cons (Holds (tidied h cs ts)) fact []
                    (bare_holds (after_wholes h cs) ts w.tidied.bare fact refl (p.ranked y (later_over t x y later_last after) prepared h of)) (All-nil (Holds (tidied h cs ts))))
                    (λ y after prepared h of. All-cons (λ (n : NewNode). (tidied h cs ts).placed n.node ≡ None) new_one []
                    (fresh_after M lawful x cs going_last own among in_stored ts w.tidied.bare y after prepared h of) (All-nil (λ (n : NewNode). (tidied h cs ts).placed n.node ≡ None)));
                row = certifies;
                are = refl;
                charged = charged_on t x later_last (all_changes cs) ts w.charged;
              }
