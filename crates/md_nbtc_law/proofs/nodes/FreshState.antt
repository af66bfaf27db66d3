-- What contracts see of a transaction that took a node and stored its words.
use Rattle.std.proofs.Common.{◌≡◌, ◌≢◌, ◌==◌, ◌++◌, ◌∷◌, ℕ, true, List, [], map, Option, Some, sym, ap, ◌∙◌, append_assoc, eq-eqb, if◌then◌else◌, unwrap_or}
use Rattle.std.proofs.lemmas.Bool.{cond-true}
use Rattle.std.proofs.lemmas.List.{map-append}
use Rattle.std.specs.List.{All, Contains}
use Rattle.md_words.specs.Content.{value_of}
use Rattle.md_words.specs.Layout.{IsNode, address}
use Rattle.md_words.specs.Place.{Place, node_key, node_next, node_value}
use Rattle.md_words.proofs.Owners.{own_node_exists}
use Rattle.md_history.specs.declared.stops.Stop.{Stop}
use Rattle.md_machine.specs.declared.attempt.Hand.{Hand}
use Rattle.md_machine.specs.declared.attempt.Read.{Read}
use Rattle.md_machine.specs.declared.pass.PassView.{PassView}
use Rattle.md_machine.specs.declared.step.Step.{Step}
use Rattle.md_machine.specs.Own.{IsWordOf}
use Rattle.md_machine.specs.Trail.{is_store}
use Rattle.md_machine.specs.clauses.passes.Lanes.{RiseFrom}
use Rattle.md_machine.proofs.lists.Rising.{map_in}
use Rattle.md_rule.specs.Views.{FieldView, PassState}
use Rattle.md_arena.specs.Taking.{TakesNode}
use Rattle.md_nbtc_law.specs.declared.slots.Lot.{Lot}
use Rattle.md_nbtc_law.specs.declared.slots.Slot.{Slot}
use Rattle.md_nbtc_law.specs.Prepared.{IsPrepared}
use Rattle.md_nbtc_law.specs.State.{TxnState, last_stored, no_hand, own_node, shape_in, state_of, stored_in, taken_since}
use Rattle.md_nbtc_law.proofs.nodes.Taken.{taken_push}
use Rattle.md_nbtc_law.proofs.nodes.TookNode.{took_new, took_one}
use Rattle.md_nbtc_law.proofs.preparing.Apart.{map_agree_on, same_own, stored_apart, taken_own}

stored_push : (xs : List Step) (s : Step) (word held : ℕ) → is_store s.kind ≡ true → s.word ≡ word → last_stored (xs ++ s ∷ []) word held ≡ s.after
stored_push [] s word held stores is = ap (λ b. if b then (if s.word == word then s.after else held) else held) stores ∙ cond-true (s.word == word) s.after held (eq-eqb s.word word is)
stored_push (x ∷ xs) s word held stores is = stored_push xs s word (if is_store x.kind then (if x.word == word then x.after else held) else held) stores is

-- a store stands last in its word, if the later steps are on other words
pub stored_here : (trail earlier later : List Step) (s : Step) (word : ℕ) → trail ≡ earlier ++ s ∷ later → is_store s.kind ≡ true → s.word ≡ word → All (λ x. x.word ≢ word) later
    → last_stored trail word 0 ≡ s.after
stored_here trail earlier later s word order stores is off = ap (λ l. last_stored l word 0) (order ∙ sym (append_assoc earlier (s ∷ []) later))
    ∙ stored_apart (earlier ++ s ∷ []) later word 0 off ∙ stored_push earlier s word 0 stores is

module _ (field : FieldView) (p began : PassState) (reads : List Read) (slots : List Slot) (stop : Option Stop) (desc serial tag : ℕ) (lots : List Lot) where
  abbrev t : TxnState
  t = state_of field p began reads slots stop desc serial tag lots

  module _ (prepared : IsPrepared t) (node : ℕ) (a : PassState) (takes : TakesNode p node a) (e : PassView) (lanes : e.lanes ≡ p.view.lanes) (rise : RiseFrom 0 p.view.lanes)
      (steps : List Step) (trail : e.trail ≡ p.view.trail ++ steps)
      (off : (k : ℕ) → k ≢ node → IsNode (shape_in t) k → (place : Place) → IsWordOf k place → All (λ s. s.word ≢ address (shape_in t) place) steps) where
    abbrev q : PassState
    q = record p { view = e; shares = a.shares }

    -- the old nodes have their words, and the new one comes last
    old_same : (k : ℕ) → Contains (taken_since began p) k → own_node (shape_in t) q k ≡ own_node (shape_in t) p k
    old_same k c =
        let has = taken_own field p began reads slots stop desc serial tag lots prepared k c in
        same_own p q steps trail (shape_in t) k (off k (took_new t prepared node a takes e lanes (own_node (shape_in t) p k) (map_in (own_node (shape_in t) p) (taken_since began p) k c))
        (own_node_exists (shape_in t) has.0 k has.2))

    pub nodes_are : map (own_node (shape_in t) q) (taken_since began q) ≡ t.nodes ++ own_node (shape_in t) q node ∷ []
    nodes_are = ap (map (own_node (shape_in t) q)) (taken_push began p q takes.lane (took_one t prepared node a takes e lanes) rise takes.lowest.held
        ∙ ap (λ k. taken_since began p ++ k ∷ []) (sym takes.next))
        ∙ map-append (own_node (shape_in t) q) (taken_since began p) (node ∷ [])
        ∙ ap (λ l. l ++ own_node (shape_in t) q node ∷ []) (map_agree_on (own_node (shape_in t) q) (own_node (shape_in t) p) (taken_since began p) old_same)

    module _ (hand : Hand) (held : e.hand ≡ Some hand) (key value next : ℕ)
        (key_is : stored_in q (address (shape_in t) (node_key node)) ≡ key) (value_is : stored_in q (address (shape_in t) (node_value node)) ≡ value)
        (next_is : value_of (stored_in q (address (shape_in t) (node_next node))) ≡ next) where
      pub fresh_state : (new : List Lot) → state_of field q began reads slots stop desc serial tag new
          ≡ record t { pass = q; hand = hand; lots = new; nodes = t.nodes ++ (record { node = node; key = key; value = value; next = next }) ∷ [] }
      fresh_state new =
          ap (λ h. record (state_of field q began reads slots stop desc serial tag new) { hand = unwrap_or h no_hand }) held
          ∙ ap (λ nodes. record t { pass = q; hand = hand; lots = new; nodes = nodes }) (nodes_are ∙ ap (λ k. t.nodes ++ k ∷ [])
          (ap (λ x. record { node = node; key = x; value = stored_in q (address (shape_in t) (node_value node)); next = value_of (stored_in q (address (shape_in t) (node_next node))) }) key_is
          ∙ ap (λ x. record { node = node; key = key; value = x; next = value_of (stored_in q (address (shape_in t) (node_next node))) }) value_is
          ∙ ap (λ x. record { node = node; key = key; value = value; next = x }) next_is))
