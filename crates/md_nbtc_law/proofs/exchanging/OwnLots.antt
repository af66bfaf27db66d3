-- The lanes that gave a transaction its nodes, and what they gave.
use Rattle.std.proofs.Common.{◌≡◌, ◌||◌, ◌-◌, ◌<◌, ◌≤◌, ◌^◌, ◌∷◌, ℕ, zero, Bool, true, false, List, [], map, Option, refl, sym, ap, ◌∙◌, subst, ⊎_elim, nat_lt, ltb-true, lt-ltb, arith}
use Rattle.std.proofs.lemmas.Bool.{cases_Bool, cases_lt, cond-false, cond-true, cond_both}
use Rattle.std.proofs.lemmas.List.Elements.{All-contains}
use Rattle.std.proofs.lemmas.List.Folds.{list_any-append}
use Rattle.std.specs.List.{Contains, flat_map, list_any, range_with_len}
use Rattle.md_words.specs.declared.shape.Shape.{Shape}
use Rattle.md_words.specs.Lanes.{node_of}
use Rattle.md_words.specs.Layout.{IsNode}
use Rattle.md_words.specs.Link.{link_value}
use Rattle.md_words.proofs.Owners.{own_node_exists}
use Rattle.md_words.proofs.Places.{nodes_fit_values}
use Rattle.md_history.specs.declared.stops.Stop.{Stop}
use Rattle.md_machine.specs.declared.attempt.Read.{Read}
use Rattle.md_machine.proofs.lists.Rising.{in_cons, in_none, map_in, range_in}
use Rattle.md_rule_lanes.specs.Shares.{share_at}
use Rattle.md_rule.specs.Views.{FieldView, PassState}
use Rattle.md_nbtc_law.specs.declared.slots.Lot.{Lot}
use Rattle.md_nbtc_law.specs.declared.slots.Slot.{Slot}
use Rattle.md_nbtc_law.specs.Prepared.{IsPrepared, IsPreparedNode}
use Rattle.md_nbtc_law.specs.State.{OwnNode, TxnState, lot_of_lane, own_node, shape_in, state_of, taken_of_lane, taken_since}
use Rattle.md_nbtc_law.proofs.exchanging.OwnNexts.{flat_in, in_flat}

-- the test of a lane's nodes is that of its lot
by_lot : (its : ℕ → Bool) (began p : PassState) (lane : ℕ)
    → list_any (λ (l : Lot). list_any its (taken_of_lane began p l.lane)) (lot_of_lane began p lane) ≡ list_any its (taken_of_lane began p lane)
by_lot its began p lane =
    let first = (share_at began.shares lane).nodes_taken in
    let taken = (share_at p.shares lane).nodes_taken in
    let lot : Lot = record { lane = lane; first = first } in
    let tests : List Lot → Bool = list_any (λ (l : Lot). list_any its (taken_of_lane began p l.lane)) in
    ⊎_elim
    (λ less. ap tests (cond-true (nat_lt first taken) (lot ∷ []) [] (lt-ltb first taken less)) ∙ or_false (list_any its (taken_of_lane began p lane)))
    (λ far. ap tests (cond-false (nat_lt first taken) (lot ∷ []) [] (not_less first taken far))
    ∙ sym (ap (λ n. list_any its (map (node_of p.shape lane) (range_with_len first n))) (no_more first taken far)))
    (cases_lt first taken)
  where
    or_false : (b : Bool) → (b || false) ≡ b
    or_false true = refl
    or_false false = refl

    not_less : (a b : ℕ) → b ≤ a → nat_lt a b ≡ false
    not_less a b far = ⊎_elim (λ t. let less = ltb-true a b t in absurd (omega (arith, far, less))) (λ f. f) (cases_Bool (nat_lt a b))

    no_more : (a b : ℕ) → b ≤ a → b - a ≡ zero
    no_more a b far = omega (arith, far)

by_lots : (its : ℕ → Bool) (began p : PassState) (lanes : List ℕ)
    → list_any (λ (l : Lot). list_any its (taken_of_lane began p l.lane)) (flat_map (lot_of_lane began p) lanes) ≡ list_any its (flat_map (taken_of_lane began p) lanes)
by_lots its began p [] = refl
by_lots its began p (lane ∷ lanes) =
    let tests : Lot → Bool = λ l. list_any its (taken_of_lane began p l.lane) in
    list_any-append tests (lot_of_lane began p lane) (flat_map (lot_of_lane began p) lanes)
    ∙ ap (λ b. b || list_any tests (flat_map (lot_of_lane began p) lanes)) (by_lot its began p lane)
    ∙ ap (λ b. list_any its (taken_of_lane began p lane) || b) (by_lots its began p lanes)
    ∙ sym (list_any-append its (taken_of_lane began p lane) (flat_map (taken_of_lane began p) lanes))

numbers_same : (shape : Shape) (p : PassState) (ns : List ℕ) → map (λ (n : OwnNode). n.node) (map (own_node shape p) ns) ≡ ns
numbers_same shape p [] = refl
numbers_same shape p (n ∷ ns) = ap (λ l. n ∷ l) (numbers_same shape p ns)

node_fits : (n : ℕ) → link_value n false < 2 ^ 32 → n < 2 ^ 32
unfolding link_value
node_fits n less = omega (arith, less)

module _ (field : FieldView) (p : PassState) (began : PassState) (reads : List Read) (slots : List Slot) (stop : Option Stop) (desc serial tag : ℕ) (lots : List Lot) where
  abbrev t : TxnState
  t = state_of field p began reads slots stop desc serial tag lots

  module _ (prepared : IsPrepared t) where
    -- the test of the transaction's nodes, by its lots
    pub test_by_lots : (its : ℕ → Bool) → list_any its (map (λ (n : OwnNode). n.node) t.nodes) ≡ list_any (λ (l : Lot). list_any its (taken_of_lane began p l.lane)) lots
    test_by_lots its = ap (list_any its) (numbers_same field.origin.shape p (taken_since began p))
        ∙ sym (ap (list_any (λ (l : Lot). list_any its (taken_of_lane began p l.lane))) prepared.has.lots ∙ by_lots its began p p.view.lanes)

    -- a lot is of a lane of the pass, from which nodes were taken since
    pub record IsLot (lot : Lot) : Type 0 where
      pub lane : Contains p.view.lanes lot.lane
      pub first : lot.first ≡ (share_at began.shares lot.lane).nodes_taken
      pub less : lot.first < (share_at p.shares lot.lane).nodes_taken
      pub node : IsNode (shape_in t) (node_of (shape_in t) lot.lane lot.first)
      pub fits : node_of (shape_in t) lot.lane lot.first < 2 ^ 32

    lot_in : (lot : Lot) (lane : ℕ) → Contains (lot_of_lane began p lane) lot
        → (lot.lane ≡ lane) × (lot.first ≡ (share_at began.shares lane).nodes_taken) × ((share_at began.shares lane).nodes_taken < (share_at p.shares lane).nodes_taken)
    lot_in lot lane c =
        let first = (share_at began.shares lane).nodes_taken in
        let taken = (share_at p.shares lane).nodes_taken in
        let one : Lot = record { lane = lane; first = first } in
        cond_both (nat_lt first taken) (one ∷ []) []
        (λ l. Contains l lot → (lot.lane ≡ lane) × (lot.first ≡ first) × (first < taken))
        (λ less has. ⊎_elim (λ same. (ap (λ (x : Lot). x.lane) (sym same), ap (λ (x : Lot). x.first) (sym same), ltb-true first taken less)) (λ none. absurd (in_none lot none)) (in_cons one [] lot has))
        (λ _ has. absurd (in_none lot has))
        c

    pub is_lot : (lot : Lot) → Contains lots lot → IsLot lot
    is_lot lot c =
        let from = in_flat (lot_of_lane began p) p.view.lanes lot (subst (λ l. Contains l lot) prepared.has.lots c) in
        let at = lot_in lot from.0 from.2 in
        let lane : Contains p.view.lanes lot.lane = subst (λ x. Contains p.view.lanes x) (sym at.0) from.1 in
        let first : lot.first ≡ (share_at began.shares lot.lane).nodes_taken = at.1 ∙ ap (λ x. (share_at began.shares x).nodes_taken) (sym at.0) in
        let less : lot.first < (share_at p.shares lot.lane).nodes_taken = subst (λ x. lot.first < (share_at p.shares x).nodes_taken) (sym at.0) (subst (λ n. n < (share_at p.shares from.0).nodes_taken) (sym at.1) at.2) in
        let number = node_of p.shape lot.lane lot.first in
        let taken : Contains (taken_since began p) number = flat_in (taken_of_lane began p) p.view.lanes lot.lane number lane
        (map_in (node_of p.shape lot.lane) (range_with_len (share_at began.shares lot.lane).nodes_taken ((share_at p.shares lot.lane).nodes_taken - (share_at began.shares lot.lane).nodes_taken)) lot.first
        (range_in (share_at began.shares lot.lane).nodes_taken ((share_at p.shares lot.lane).nodes_taken - (share_at began.shares lot.lane).nodes_taken) lot.first (omega (arith, first)) (omega (arith, first, less)))) in
        let own = (All-contains (IsPreparedNode t) t.nodes (own_node field.origin.shape p number) prepared.nodes (map_in (own_node field.origin.shape p) (taken_since began p) number taken)).own in
        let node : IsNode (shape_in t) (node_of (shape_in t) lot.lane lot.first) =
        subst (λ s. IsNode (shape_in t) (node_of s lot.lane lot.first)) prepared.has.of.shape (own_node_exists (shape_in t) own.0 number own.2) in
        record { lane = lane; first = first; less = less; node = node; fits = node_fits (node_of (shape_in t) lot.lane lot.first) (nodes_fit_values (shape_in t) (node_of (shape_in t) lot.lane lot.first) false node.1) }

    -- the nodes that it gave
    pub lot_nodes : (lot : Lot) → IsLot lot
        → taken_of_lane began p lot.lane ≡ map (node_of (shape_in t) lot.lane) (range_with_len lot.first ((share_at p.shares lot.lane).nodes_taken - lot.first))
    lot_nodes lot is = let taken = (share_at p.shares lot.lane).nodes_taken in
        ap (λ n. map (node_of p.shape lot.lane) (range_with_len n (taken - n))) (sym is.first)
        ∙ ap (λ s. map (node_of s lot.lane) (range_with_len lot.first (taken - lot.first))) prepared.has.of.shape
