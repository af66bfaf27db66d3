-- What contracts see of a transaction over one step that stores to no word of its nodes.
use Rattle.std.proofs.Common.{◌≡◌, ◌≢◌, ◌==◌, ◌++◌, ◌∷◌, ◌-◌, ℕ, true, List, [], map, Option, refl, sym, ap, ◌∙◌, inl, inr, ⊎_elim, if◌then◌else◌}
use Rattle.std.proofs.lemmas.Bool.{cases_Bool, cond-false, ne_eqb}
use Rattle.std.specs.List.{Contains, flat_map, range_with_len}
use Rattle.md_words.specs.Content.{value_of}
use Rattle.md_words.specs.Lanes.{node_of}
use Rattle.md_words.specs.Layout.{address}
use Rattle.md_words.specs.Place.{Place, node_key, node_next, node_value}
use Rattle.md_history.specs.declared.stops.Stop.{Stop}
use Rattle.md_machine.specs.declared.attempt.Read.{Read}
use Rattle.md_machine.specs.declared.certificate.Change.{Change}
use Rattle.md_machine.specs.declared.pass.PassView.{PassView}
use Rattle.md_machine.specs.declared.step.Step.{Step}
use Rattle.md_machine.specs.Own.{IsWordOf}
use Rattle.md_machine.specs.Trail.{is_store}
use Rattle.md_machine.proofs.lists.Rising.{here, map_in, there}
use Rattle.md_rule_lanes.specs.Shares.{share_at}
use Rattle.md_rule.specs.Views.{FieldView, PassState}
use Rattle.md_rule_lanes.specs.declared.shares.Share.{Share}
use Rattle.md_help.specs.After.{IsAfter}
use Rattle.md_nbtc_law.specs.declared.slots.Lot.{Lot}
use Rattle.md_nbtc_law.specs.declared.slots.Slot.{Slot}
use Rattle.md_nbtc_law.specs.State.{OwnNode, TxnState, last_stored, own_node, shape_in, state_of, stored_in, taken_of_lane, taken_since}
use Rattle.md_nbtc_law.proofs.exchanging.ChangedPrepared.{SameTaken, changed, changed_pass, changed_view}

-- two functions that agree on the elements of a list
pub map_agree_in : {A B : Type 0} (f g : A → B) (xs : List A) → ((x : A) → Contains xs x → f x ≡ g x) → map f xs ≡ map g xs
map_agree_in f g [] same = refl
map_agree_in f g (x ∷ xs) same = ap (λ y. y ∷ map f xs) (same x (here x xs)) ∙ ap (λ l. g x ∷ l) (map_agree_in f g xs (λ y c. same y (there x xs y c)))

-- a step that doesn't store to a word leaves what was stored there last
stored_push : (trail : List Step) (s : Step) (word held : ℕ) → (is_store s.kind ≡ true → s.word ≢ word) → last_stored (trail ++ s ∷ []) word held ≡ last_stored trail word held
stored_push [] s word held apart = ⊎_elim
    (λ stores. ap (λ b. if b then (if s.word == word then s.after else held) else held) stores ∙ cond-false (s.word == word) s.after held (ne_eqb s.word word (apart stores)))
    (λ none. cond-false (is_store s.kind) (if s.word == word then s.after else held) held none)
    (cases_Bool (is_store s.kind))
stored_push (x ∷ trail) s word held apart = stored_push trail s word (if is_store x.kind then (if x.word == word then x.after else held) else held) apart

module _ (field : FieldView) (p : PassState) (began : PassState) (reads : List Read) (slots : List Slot) (stop : Option Stop) (desc serial tag : ℕ) (lots : List Lot) where
  abbrev pub was : TxnState
  was = state_of field p began reads slots stop desc serial tag lots

  module _ (base : PassView) (s : Step) (after : IsAfter (shape_in was) (s ∷ []) p.view base) (changes : List Change) (shares : List Share) (now : List Slot)
      (same : SameTaken p.shares shares)
      (apart : (n : OwnNode) → Contains was.nodes n → (place : Place) → IsWordOf n.node place → is_store s.kind ≡ true → s.word ≢ address (shape_in was) place) where
    abbrev u : TxnState
    u = changed was base s after changes shares now

    abbrev q : PassState
    q = changed_pass was base s after changes shares now

    lane_same : (lane : ℕ) → taken_of_lane began q lane ≡ taken_of_lane began p lane
    lane_same lane = let first = (share_at began.shares lane).nodes_taken in
        ap (λ n. map (node_of p.shape lane) (range_with_len first (n - first))) (same lane)

    lanes_same : (lanes : List ℕ) → flat_map (taken_of_lane began q) lanes ≡ flat_map (taken_of_lane began p) lanes
    lanes_same [] = refl
    lanes_same (lane ∷ lanes) = ap (λ l. l ++ flat_map (taken_of_lane began q) lanes) (lane_same lane) ∙ ap (λ l. taken_of_lane began p lane ++ l) (lanes_same lanes)

    taken_same : taken_since began q ≡ taken_since began p
    taken_same = ap (λ (x : PassView). flat_map (taken_of_lane began q) x.lanes) after.1 ∙ lanes_same p.view.lanes

    word_same : (n : ℕ) → Contains (taken_since began p) n → (place : Place) → IsWordOf n place → stored_in q (address (shape_in was) place) ≡ stored_in p (address (shape_in was) place)
    word_same n c place is = ap (λ (x : PassView). last_stored x.trail (address (shape_in was) place) 0) after.1
        ∙ stored_push p.view.trail s (address (shape_in was) place) 0 (apart (own_node (shape_in was) p n) (map_in (own_node (shape_in was) p) (taken_since began p) n c) place is)

    node_same : (n : ℕ) → Contains (taken_since began p) n → own_node (shape_in was) q n ≡ own_node (shape_in was) p n
    node_same n c = let made : ℕ → ℕ → ℕ → OwnNode = λ k v x. record { node = n; key = k; value = v; next = value_of x } in
        let sh = shape_in was in
        ap (λ k. made k (stored_in q (address sh (node_value n))) (stored_in q (address sh (node_next n)))) (word_same n c (node_key n) (inl (inl refl)))
        ∙ ap (λ v. made (stored_in p (address sh (node_key n))) v (stored_in q (address sh (node_next n)))) (word_same n c (node_value n) (inl (inr refl)))
        ∙ ap (λ x. made (stored_in p (address sh (node_key n))) (stored_in p (address sh (node_value n))) x) (word_same n c (node_next n) (inr refl))

    nodes_same : map (own_node (shape_in was) q) (taken_since began q) ≡ was.nodes
    nodes_same = ap (map (own_node (shape_in was) q)) taken_same
        ∙ map_agree_in (own_node (shape_in was) q) (own_node (shape_in was) p) (taken_since began p) node_same

    changed_state : state_of field q began reads now stop desc serial tag lots ≡ u
    changed_state = ap (λ nodes. record u { nodes = nodes }) nodes_same

    is_q : (pass : PassState) → pass ≡ record p { view = pass.view; shares = pass.shares } → pass.view ≡ changed_view was base s after changes shares now → pass.shares ≡ shares → pass ≡ q
    is_q pass is view sh = is ∙ ap (λ (v : PassView). record p { view = v; shares = pass.shares }) view ∙ ap (λ (l : List Share). record p { view = q.view; shares = l }) sh

    -- of a pass that is so
    pub changed_so : (pass : PassState) → pass ≡ record p { view = pass.view; shares = pass.shares } → pass.view ≡ changed_view was base s after changes shares now → pass.shares ≡ shares
        → state_of field pass began reads now stop desc serial tag lots ≡ u
    changed_so pass is view sh = ap (λ x. state_of field x began reads now stop desc serial tag lots) (is_q pass is view sh) ∙ changed_state

    -- of a pass whose view alone changed
    pub view_so : (pass : PassState) → pass ≡ record p { view = pass.view } → pass.view ≡ changed_view was base s after changes shares now → p.shares ≡ shares
        → state_of field pass began reads now stop desc serial tag lots ≡ u
    view_so pass is view sh =
        let kept : pass.shares ≡ p.shares = ap (λ (x : PassState). x.shares) is in
        changed_so pass (is ∙ ap (λ (l : List Share). record p { view = pass.view; shares = l }) (sym kept)) view (kept ∙ sh)
