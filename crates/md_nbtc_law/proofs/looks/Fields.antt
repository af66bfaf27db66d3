-- What a load of a key or a value of a node tells.
use Rattle.std.proofs.Common.{◌≡◌, ◌++◌, ◌∷◌, ℕ, true, List, [], refl, sym, ap, ◌∙◌, subst, ⊎_elim, append_assoc, is_some, slice_index, arith}
use Rattle.std.proofs.lemmas.List.Elements.{Contains-append_right, Contains-push, All-contains}
use Rattle.std.specs.List.{Contains}
use Rattle.md_words.specs.declared.shape.Shape.{Shape}
use Rattle.md_words.specs.Layout.{address}
use Rattle.md_words.specs.Place.{Place, node_key, node_value}
use Rattle.md_words.specs.PlaceAt.{place_at}
use Rattle.md_words.proofs.Places.{address-place_at}
use Rattle.md_machine.specs.declared.node.Structure.{Structure}
use Rattle.md_machine.specs.declared.pass.PassView.{PassView}
use Rattle.md_machine.specs.declared.step.Step.{Step}
use Rattle.md_machine.specs.declared.step.Kind.TheVariants.{Load}
use Rattle.md_machine.specs.declared.certificate.Certificate.{Certificate}
use Rattle.md_machine.specs.Event.{load}
use Rattle.md_machine.specs.LogicalHeap.{LogicalHeap}
use Rattle.md_machine.specs.Machine.{Machine, content, shape_of, word_at}
use Rattle.md_machine.specs.Meaning.{Lawful, Meaning}
use Rattle.md_machine.specs.Own.{IsDataOf}
use Rattle.md_machine.specs.Resolution.{always_placed, least, logical_heap}
use Rattle.md_machine.specs.Stepping.{is_of_placed, step_of, stepped}
use Rattle.md_rule.specs.Steps.{SteppedFrom}
use Rattle.md_rule.specs.Views.{FieldView}
use Rattle.md_rule.proofs.Moves.{is_kept}
use Rattle.md_rule.proofs.Told.{told_load}
use Rattle.md_nbtc_law.specs.Calls.{IsData, data_at}
use Rattle.md_nbtc_law.specs.Going.{IsGoing, IsUnplaced}
use Rattle.md_nbtc_law.specs.Known.{IsHeapOf, IsLater, Known, KnowsPlaced}
use Rattle.md_nbtc_law.specs.State.{OwnNode, TxnState, shape_in}
use Rattle.md_nbtc_law.proofs.preparing.Heaps.{heap_there, later_self}
use Rattle.md_nbtc_law.proofs.preparing.Later.{later_over}

-- what a heap of a machine has as the key or the value of a node is what stands in its word
data_is : (m : Machine) (h : LogicalHeap) (node : ℕ) (place : Place) → IsDataOf node place → ((p : Place) → (h.words.key_of node ≡ word_at (shape_of m) m.words (node_key node)) × (h.words.value_of_node node ≡ word_at (shape_of m) m.words (node_value node)))
    → data_at h place ≡ word_at (shape_of m) m.words place
data_is m h node place is both = ⊎_elim
    (λ key. subst (λ p. data_at h p ≡ word_at (shape_of m) m.words p) (sym key) (both place).0)
    (λ value. subst (λ p. data_at h p ≡ word_at (shape_of m) m.words p) (sym value) (both place).1)
    is

module _ (M : Meaning) (lawful : Lawful M) (t : TxnState) (cs : List Certificate) (going : IsGoing M t cs) (word result : ℕ) (is_data : IsData M t word) (q : PassView)
    (step : SteppedFrom M t.field.origin (λ pass. load pass word) word result t.pass.view q) where
  abbrev m : Machine
  m = step.0.machine

  abbrev place : Place
  place = place_at (shape_in t) word

  abbrev made : Step
  made = step_of m t.pass.view Load word (content m word)

  view_is : q ≡ stepped m t.pass.view Load word (content m word)
  view_is = told_load M t.field.origin t.pass.view q word step.0

  at_word : (shape : Shape) → shape ≡ shape_in t → address shape place ≡ word
  at_word shape same = ap (λ (s : Shape). address s place) same ∙ (address-place_at (shape_in t) word is_data.within).1

  there : IsHeapOf M t (logical_heap m (least m.fates))
  there = heap_there M lawful t m step.0.admitted step.0.pass step.0.acts

  -- the value in the heap before the step is what was found
  found : data_at (logical_heap m (least m.fates)) place ≡ result
  found = data_is m (logical_heap m (least m.fates)) is_data.node place is_data.is (λ p. (refl, refl))
      ∙ ap (slice_index m.words) (at_word (shape_of m) step.0.admitted.shape) ∙ step.1

  flag : (s : Structure) → KnowsPlaced M t is_data.node s → made.placed ≡ true
  flag s known =
      let always : always_placed m is_data.node ≡ true = ap is_some (known t (later_self t) going.prepared _ there) in
      let here : place_at (shape_of m) word ≡ place = ap (λ (x : Shape). place_at x word) step.0.admitted.shape in
      ⊎_elim (λ key. ap (is_of_placed m) (here ∙ key) ∙ always) (λ value. ap (is_of_placed m) (here ∙ value) ∙ always) is_data.is

  module _ (u : TxnState) (is_view : u.pass.view ≡ q) (same_field : u.field ≡ t.field) (later : IsLater t u) where
    placed_known : (s : Structure) → KnowsPlaced M t is_data.node s → Known M u (λ v h. data_at h place ≡ result)
    placed_known s known v over prepared h of =
        let shape : shape_of of.machine ≡ shape_in t = of.admitted.shape ∙ ap (λ (f : FieldView). f.origin.shape) (over.field ∙ same_field) in
        let trail : v.pass.view.trail ≡ t.pass.view.trail ++ (made ∷ over.steps.rest) =
        over.steps.is ∙ ap (λ (x : PassView). x.trail ++ over.steps.rest) (is_view ∙ view_is)
        ∙ append_assoc t.pass.view.trail (made ∷ []) over.steps.rest in
        let inside : Contains v.pass.view.trail made = subst (λ l. Contains l made) (sym trail) (Contains-append_right t.pass.view.trail (made ∷ over.steps.rest) made (0, omega arith, refl)) in
        let stands = (is_kept M v.field.origin of.machine of.admitted).node_words of.pass v.pass.view of.acts.at v.pass.view.trail
        (Contains-push v.pass.view.past v.pass.view.trail) made inside (flag s known) is_data.node
        (subst (IsDataOf is_data.node) (ap (λ (x : Shape). place_at x word) (sym shape)) is_data.is) in
        ap (λ (x : LogicalHeap). data_at x place) of.is
        ∙ data_is of.machine (logical_heap of.machine of.choice) is_data.node place is_data.is (λ p. (refl, refl))
        ∙ ap (slice_index of.machine.words) (at_word (shape_of of.machine) shape) ∙ sym stands.before ∙ step.1

    own_known : (n : OwnNode) → Contains t.nodes n → n.node ≡ is_data.node → Known M u (λ v h. data_at h place ≡ result)
    own_known n among is v over prepared h of =
        let own = All-contains (IsUnplaced M t) t.nodes n going.nodes among in
        let far = later_over t u v later over in
        let at_first = own.key t (later_self t) going.prepared _ there in
        let value_first = own.value t (later_self t) going.prepared _ there in
        let key_now = own.key v far prepared h of in
        let value_now = own.value v far prepared h of in
        ⊎_elim
        (λ key. subst (λ p. data_at h p ≡ result) (sym key) (ap h.words.key_of (sym is) ∙ key_now ∙ sym at_first ∙ ap (logical_heap m (least m.fates)).words.key_of is
        ∙ subst (λ p. data_at (logical_heap m (least m.fates)) p ≡ result) key found))
        (λ value. subst (λ p. data_at h p ≡ result) (sym value) (ap h.words.value_of_node (sym is) ∙ value_now ∙ sym value_first ∙ ap (logical_heap m (least m.fates)).words.value_of_node is
        ∙ subst (λ p. data_at (logical_heap m (least m.fates)) p ≡ result) value found))
        is_data.is

    pub field_known : Known M u (λ v h. data_at h place ≡ result)
    field_known = ⊎_elim (λ p. placed_known p.0 p.1) (λ o. own_known o.0 o.1 o.2) is_data.among
