-- The words of a list, its head and the next words of its nodes, may be looked at and changed, and no cleanup of a queue
-- is kept with them.
use Rattle.std.proofs.Common.{◌≡◌, ◌≢◌, ◌==◌, ◌⊎◌, ℕ, true, false, List, Option, Some, None, refl, sym, ap, ◌∙◌, subst, inl, inr, ⊎_elim, IfSome, map, eq-eqb}
use Rattle.std.proofs.lemmas.Bool.{true≢false}
use Rattle.std.proofs.lemmas.List.Elements.{All-contains}
use Rattle.std.specs.List.{AllPairs, Contains}
use Rattle.md_words.specs.Layout.{IsNode}
use Rattle.md_words.specs.Link.{is_marked}
use Rattle.md_machine.specs.declared.attempt.Write.{Write}
use Rattle.md_machine.specs.declared.certificate.Certificate.{Certificate}
use Rattle.md_machine.specs.declared.certificate.NewNode.{NewNode}
use Rattle.md_machine.specs.declared.node.PlacedNode.{PlacedNode}
use Rattle.md_machine.specs.declared.node.Structure.{Structure}
use Rattle.md_machine.specs.declared.node.Structure.TheVariants.{Bucket, Queue}
use Rattle.md_machine.specs.Certified.{all_nodes, after_wholes, is_written, placed_by}
use Rattle.md_machine.specs.LogicalHeap.{Holds}
use Rattle.md_machine.specs.Meaning.{Lawful, Meaning}
use Rattle.md_machine.proofs.chain.SameNodes.{next_alone}
use Rattle.md_machine.proofs.lists.Differ.{pairs_cross}
use Rattle.md_machine.proofs.lists.Rising.{map_in}
use Rattle.md_nbtc_law.specs.declared.seen.Cleanup.{Cleanup}
use Rattle.md_nbtc_law.specs.declared.seen.Cleanup.TheVariants.{MoveTail, Unlink}
use Rattle.md_nbtc_law.specs.declared.seen.Seen.{Seen}
use Rattle.md_nbtc_law.specs.declared.slots.Slot.{Slot}
use Rattle.md_nbtc_law.specs.Cleaning.{CleanupsStay, FitsCleanup, IsKeptCleanup, IsPlacedIn}
use Rattle.md_nbtc_law.specs.Course.{IsStoredNode, stored_words}
use Rattle.md_nbtc_law.specs.Going.{IsGoing}
use Rattle.md_nbtc_law.specs.Known.{Known, KnowsPlaced}
use Rattle.md_nbtc_law.specs.Seeing.{Gave, IsInPlace, IsNextOf, IsOwnPlaced, MayChange}
use Rattle.md_nbtc_law.specs.State.{OwnNode, TxnState, shape_in, writes_in}
use Rattle.md_nbtc_law.proofs.exchanging.OwnSlots.{any_has}
use Rattle.md_nbtc_law.proofs.preparing.Heaps.{known_now}
use Rattle.md_nbtc_law.proofs.ready.Lookups.{all_of, one_of}
use Rattle.md_nbtc_law.proofs.ready.Standing.{pairs_map}
use Rattle.md_nbtc_law.proofs.structures.NodesKnown.{own_known, placed_or_own}
use Rattle.md_list_law.specs.Certificates.{key_fact}
use Rattle.md_list_law.specs.HasLists.{HasListsOf}
use Rattle.md_list_law.specs.ListShape.{IsIn, next_word}
use Rattle.md_list_law.proofs.Links.{head_is_no_next}
use Rattle.md_list.specs.Walking.{Gives, IsBefore, IsHead}
use Rattle.md_list.proofs.walking.At.{head_in_place, node_exists, placed_after}
use Rattle.md_list.proofs.changes.Staying.{KeepsNone}

-- a node has one structure
one_structure : (s r : Structure) (o : Option Structure) → o ≡ Some s → o ≡ Some r → s ≡ r
one_structure s r o a b = cc (a, b)

no_queue : (m b q : ℕ) → Bucket m b ≡ Queue q → ⊥
no_queue m b q e = cc e

module _ (M : Meaning) (t : TxnState) (cs : List Certificate) (going : IsGoing M t cs) where
  -- an own node that an ended operation placed isn't one of the operation under way
  pub own_placed : (n : NewNode) → Contains (all_nodes cs) n → IsOwnPlaced t n.node
  own_placed n among = (
    stored_words n,
    (All-contains (IsStoredNode t) (all_nodes cs) n going.course.nodes among).own,
    refl,
    λ stored. pairs_cross (λ (a b : ℕ). a ≢ b) (map (λ (x : NewNode). x.node) (all_nodes cs)) t.hand.stored
        (subst (λ l. AllPairs (λ (a b : ℕ). a ≢ b) l) going.course.order (pairs_map (λ (x : OwnNode). x.node) t.nodes going.prepared.has.nodes_differ))
        n.node n.node (map_in (λ (x : NewNode). x.node) (all_nodes cs) n among) stored refl,
  )

module _ (M : Meaning) (lawful : Lawful M) (lists : HasListsOf M) (t : TxnState) (cs : List Certificate) (going : IsGoing M t cs) (map_of bucket : ℕ) where
  abbrev list : Structure
  list = Bucket map_of bucket

  module _ (node : ℕ) (exists : IsNode (shape_in t) node) (placed : Known M t (λ u h. IsIn (after_wholes h cs) list node)) where
    -- the next word of a node of the list may be changed
    pub next_may_change : MayChange M t (next_word (shape_in t) node)
    next_may_change other next =
        let same = next_alone (shape_in t) node other exists next.0 next.1 in
        ⊎_elim
        (λ known. inl (list, subst (λ x. KnowsPlaced M t x list) same known))
        (λ own. inr (subst (IsOwnPlaced t) (own.2 ∙ same) (own_placed M t cs going own.0 own.1)))
        (placed_or_own M lawful t cs going node list placed)

    -- and looked at
    pub next_place : IsInPlace M t (next_word (shape_in t) node) ⊎ ((n : OwnNode) × Contains t.nodes n × IsNextOf t (next_word (shape_in t) node) n.node)
    next_place = ⊎_elim
        (λ known. inl (λ other next. (list, subst (λ x. KnowsPlaced M t x list) (next_alone (shape_in t) node other exists next.0 next.1) known)))
        (λ own. inr (
          stored_words own.0,
          (All-contains (IsStoredNode t) (all_nodes cs) own.0 going.course.nodes own.1).own,
          (subst (IsNode (shape_in t)) (sym own.2) exists, ap (next_word (shape_in t)) (sym own.2)),
        ))
        (placed_or_own M lawful t cs going node list placed)

    -- no move of a tail is kept with it, since that goes by the next word of a queue's node
    pub next_no_move : (w : Write) → w.word ≡ next_word (shape_in t) node → (tail from to : ℕ) → IsKeptCleanup M t cs w (MoveTail tail from to) → ⊥
    next_no_move w is tail from to kept =
        let from_placed = placed_after M lawful lists t cs going from (Queue kept.may.of.0) kept.may.of.1 in
        let from_exists = node_exists M lawful lists t cs going (Queue kept.may.of.0) from from_placed in
        let same = next_alone (shape_in t) node from exists from_exists (sym is ∙ kept.word) in
        let both = known_now M lawful (λ u h. IsIn (after_wholes h cs) list node × ((after_wholes h cs).placed from ≡ Some (Queue kept.may.of.0))) t cs going
        (λ u later prepared h of. (placed u later prepared h of, from_placed u later prepared h of)) in
        no_queue map_of bucket kept.may.of.0 (one_structure list (Queue kept.may.of.0) ((after_wholes both.0 cs).placed node) both.2.0 (ap (after_wholes both.0 cs).placed same ∙ both.2.1))

    -- while it is unmarked no cleanup is kept with it
    pub next_keeps_none : (seen : Seen) → Gave t (next_word (shape_in t) node) seen → is_marked seen.value ≡ false → KeepsNone t (next_word (shape_in t) node)
    next_keeps_none seen gave unmarked s among is =
        let write = map_in (λ (x : Slot). x.write) t.slots s among in
        let slot = gave.slot (gave.own ∙ any_has (λ (w : Write). w.word == next_word (shape_in t) node) (writes_in t) s.write write (eq-eqb s.write.word (next_word (shape_in t) node) is)) in
        let same = one_of (λ (w : Write). w.word) (writes_in t) going.prepared.has.written_once s.write slot.write write slot.among (is ∙ sym slot.there) in
        none_of (ap (λ (w : Write). is_marked w.new) same ∙ ap is_marked slot.value ∙ unmarked) s.cleanup
        (All-contains (λ (x : Slot). IfSome x.cleanup (IsKeptCleanup M t cs x.write)) t.slots s going.cleanups among)
      where
        not_kept : is_marked s.write.new ≡ false → (c : Cleanup) → IsKeptCleanup M t cs s.write c → ⊥
        not_kept new (Unlink from other) kept = true≢false (sym kept.fits ∙ new)
        not_kept new (MoveTail tail from to) kept = next_no_move s.write is tail from to kept

        none_of : is_marked s.write.new ≡ false → (o : Option Cleanup) → IfSome o (IsKeptCleanup M t cs s.write) → o ≡ None
        none_of new None kept = refl
        none_of new (Some c) kept = absurd (not_kept new c kept)

    -- the mark spoils no cleanup that is kept with it
    pub mark_stays : (to : ℕ) → is_marked to ≡ true → CleanupsStay t (next_word (shape_in t) node) to
    mark_stays to marked = all_of (λ (s : Slot). s.write.word ≡ next_word (shape_in t) node → IfSome s.cleanup (λ c. FitsCleanup c to)) t.slots (λ s among is.
        kept_fits s is s.cleanup (All-contains (λ (x : Slot). IfSome x.cleanup (IsKeptCleanup M t cs x.write)) t.slots s going.cleanups among))
      where
        fits : (s : Slot) → s.write.word ≡ next_word (shape_in t) node → (c : Cleanup) → IsKeptCleanup M t cs s.write c → FitsCleanup c to
        fits s is (Unlink from other) kept = marked
        fits s is (MoveTail tail from next) kept = absurd (next_no_move s.write is tail from next kept)

        kept_fits : (s : Slot) → s.write.word ≡ next_word (shape_in t) node → (o : Option Cleanup) → IfSome o (IsKeptCleanup M t cs s.write) → IfSome o (λ c. FitsCleanup c to)
        kept_fits s is None kept = tt
        kept_fits s is (Some c) kept = fits s is c kept

    -- the node is known to be placed there, or an ended operation placed it there
    pub placed_in : IsPlacedIn M t cs node list
    placed_in = ⊎_elim inl
        (λ own.
        let both = known_now M lawful (λ u h. IsIn (after_wholes h cs) list node × ((after_wholes h cs).placed own.0.node ≡ Some own.0.structure)) t cs going
        (λ u later prepared h of. (placed u later prepared h of, (own_known M lawful t cs going own.0 own.1 u later prepared h of).placed)) in
        let is_list = one_structure own.0.structure list ((after_wholes both.0 cs).placed node) (ap (after_wholes both.0 cs).placed (sym own.2) ∙ both.2.1) both.2.0 in
        inr (subst (Contains (placed_by cs)) (pair_is own.0 own.2 is_list) (map_in (λ (n : NewNode). record { node = n.node; structure = n.structure }) (all_nodes cs) own.0 own.1)))
        (placed_or_own M lawful t cs going node list placed)
      where
        pair_is : (n : NewNode) → n.node ≡ node → n.structure ≡ list → (let p : PlacedNode = record { node = n.node; structure = n.structure } in p) ≡ record { node = node; structure = list }
        pair_is n a b = ap (λ x. let p : PlacedNode = record { node = x; structure = n.structure } in p) a ∙ ap (λ x. let p : PlacedNode = record { node = node; structure = x } in p) b

  module _ (head key prev : ℕ) (is_head : IsHead (shape_in t) map_of bucket head) (before : IsBefore M t cs list head key prev) where
    -- the node of such a word is one of the list
    before_placed : (node less : ℕ) → Known M t (λ u h. Holds (after_wholes h cs) (key_fact list node less)) → Known M t (λ u h. IsIn (after_wholes h cs) list node)
    before_placed node less known u later prepared h of = (known u later prepared h of).placed

    pub may_change : MayChange M t prev
    may_change node next = ⊎_elim
        (λ first. absurd (head_is_no_next (shape_in t) map_of bucket node is_head.is_map is_head.is_bucket next.0 (sym next.1 ∙ first ∙ is_head.is)))
        (λ b. next_may_change b.0 b.2 (before_placed b.0 b.1 b.3) node (next.0, sym b.5 ∙ next.1))
        before

    pub prev_place : IsInPlace M t prev ⊎ ((n : OwnNode) × Contains t.nodes n × IsNextOf t prev n.node)
    prev_place = ⊎_elim
        (λ first. inl (λ node next. head_in_place M lawful lists t map_of bucket head is_head node (next.0, sym first ∙ next.1)))
        (λ b. subst (λ x. IsInPlace M t x ⊎ ((n : OwnNode) × Contains t.nodes n × IsNextOf t x n.node)) (sym b.5) (next_place b.0 b.2 (before_placed b.0 b.1 b.3)))
        before

    -- with an unmarked word no cleanup is kept, so none is spoilt
    none_kept : (at : Seen) → Gives M t prev at → (s : Slot) → s.write.word ≡ prev → s.write.new ≡ at.value → (c : Cleanup) → IsKeptCleanup M t cs s.write c → ⊥
    none_kept at gives s is new (Unlink from node) kept = true≢false (sym kept.fits ∙ ap is_marked new ∙ gives.unmarked)
    none_kept at gives s is new (MoveTail tail from to) kept = ⊎_elim
        (λ first. head_is_no_next (shape_in t) map_of bucket from is_head.is_map is_head.is_bucket
        (node_exists M lawful lists t cs going (Queue kept.may.of.0) from (placed_after M lawful lists t cs going from (Queue kept.may.of.0) kept.may.of.1)) (sym kept.word ∙ is ∙ first ∙ is_head.is))
        (λ b. next_no_move b.0 b.2 (before_placed b.0 b.1 b.3) s.write (is ∙ b.5) tail from to kept)
        before

    pub cleanups_stay : (at : Seen) → Gives M t prev at → is_written (writes_in t) prev ≡ true → (to : ℕ) → CleanupsStay t prev to
    cleanups_stay at gives written to = all_of (λ (s : Slot). s.write.word ≡ prev → IfSome s.cleanup (λ c. FitsCleanup c to)) t.slots (λ s among is.
        let slot = gives.gave.slot (gives.gave.own ∙ written) in
        let same = one_of (λ (w : Write). w.word) (writes_in t) going.prepared.has.written_once s.write slot.write (map_in (λ (x : Slot). x.write) t.slots s among) slot.among
        (is ∙ sym slot.there) in
        none_fits s is (ap (λ (w : Write). w.new) same ∙ slot.value) s.cleanup (All-contains (λ (x : Slot). IfSome x.cleanup (IsKeptCleanup M t cs x.write)) t.slots s going.cleanups among))
      where
        none_fits : (s : Slot) → s.write.word ≡ prev → s.write.new ≡ at.value → (o : Option Cleanup) → IfSome o (IsKeptCleanup M t cs s.write) → IfSome o (λ c. FitsCleanup c to)
        none_fits s is new None kept = tt
        none_fits s is new (Some c) kept = absurd (none_kept at gives s is new c kept)
