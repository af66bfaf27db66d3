-- What was stored last in a word stays so over steps on other words: so the own nodes keep their words.
use Rattle.std.proofs.Common.{◌≡◌, ◌≢◌, ◌==◌, ◌++◌, ◌∷◌, ℕ, Bool, true, false, List, [], map, refl, ap, ◌∙◌, inl, inr, if◌then◌else◌, unwrap_or, Option}
use Rattle.std.proofs.lemmas.Bool.{ne_eqb}
use Rattle.std.proofs.lemmas.List.Elements.{All-contains, All-head, All-tail}
use Rattle.std.specs.List.{All, Contains, flat_map}
use Rattle.md_words.specs.declared.shape.Shape.{Shape}
use Rattle.md_words.specs.Content.{value_of}
use Rattle.md_words.specs.Layout.{address}
use Rattle.md_words.specs.Place.{Place, node_key, node_next, node_value}
use Rattle.md_machine.specs.declared.step.Step.{Step}
use Rattle.md_machine.specs.Own.{IsWordOf}
use Rattle.md_machine.specs.Trail.{is_store}
use Rattle.md_machine.proofs.lists.Rising.{here, there}
use Rattle.md_machine.specs.declared.pass.PassView.{PassView}
use Rattle.md_machine.specs.declared.attempt.Read.{Read}
use Rattle.md_machine.specs.Own.{HasNode}
use Rattle.md_machine.proofs.lists.Rising.{map_in}
use Rattle.md_rule.specs.Views.{FieldView, PassState}
use Rattle.md_history.specs.declared.stops.Stop.{Stop}
use Rattle.md_help.specs.After.{IsAfter}
use Rattle.md_nbtc_law.specs.declared.slots.Lot.{Lot}
use Rattle.md_nbtc_law.specs.declared.slots.Slot.{Slot}
use Rattle.md_nbtc_law.specs.Prepared.{IsPrepared, IsPreparedNode}
use Rattle.md_nbtc_law.specs.State.{TxnState, last_stored, no_hand, own_node, shape_in, state_of, stored_in, taken_of_lane, taken_since}

-- two functions that agree on a list give the same one
pub map_agree_on : {A B : Type 0} (f g : A → B) (xs : List A) → ((x : A) → Contains xs x → f x ≡ g x) → map f xs ≡ map g xs
map_agree_on f g [] same = refl
map_agree_on f g (x ∷ xs) same = ap (λ y. y ∷ map f xs) (same x (here x xs)) ∙ ap (λ l. g x ∷ l) (map_agree_on f g xs (λ y c. same y (there x xs y c)))

same_either : {A : Type 0} (b : Bool) (x : A) → (if b then x else x) ≡ x
same_either true x = refl
same_either false x = refl

pub stored_apart : (trail steps : List Step) (word held : ℕ) → All (λ s. s.word ≢ word) steps → last_stored (trail ++ steps) word held ≡ last_stored trail word held
stored_apart [] [] word held off = refl
stored_apart [] (s ∷ steps) word held off = ap (last_stored steps word)
    (ap (λ b. if is_store s.kind then (if b then s.after else held) else held) (ne_eqb s.word word (All-head (λ x. x.word ≢ word) s steps off))
    ∙ same_either (is_store s.kind) held)
    ∙ stored_apart [] steps word held (All-tail (λ x. x.word ≢ word) s steps off)
stored_apart (s ∷ trail) steps word held off = stored_apart trail steps word (if is_store s.kind then (if s.word == word then s.after else held) else held) off

module _ (p q : PassState) (steps : List Step) (trail : q.view.trail ≡ p.view.trail ++ steps) (shape : Shape) (n : ℕ)
    (off : (place : Place) → IsWordOf n place → All (λ s. s.word ≢ address shape place) steps) where
  same_word : (place : Place) → IsWordOf n place → stored_in q (address shape place) ≡ stored_in p (address shape place)
  same_word place is = ap (λ l. last_stored l (address shape place) 0) trail ∙ stored_apart p.view.trail steps (address shape place) 0 (off place is)

  pub same_own : own_node shape q n ≡ own_node shape p n
  same_own =
      ap (λ k. record { node = n; key = k; value = stored_in q (address shape (node_value n)); next = value_of (stored_in q (address shape (node_next n))) }) (same_word (node_key n) (inl (inl refl)))
      ∙ ap (λ v. record { node = n; key = stored_in p (address shape (node_key n)); value = v; next = value_of (stored_in q (address shape (node_next n))) }) (same_word (node_value n) (inl (inr refl)))
      ∙ ap (λ x. record { node = n; key = stored_in p (address shape (node_key n)); value = stored_in p (address shape (node_value n)); next = value_of x }) (same_word (node_next n) (inr refl))

-- what contracts see of a prepared transaction after steps on other words than its own nodes'
module _ (field : FieldView) (p began : PassState) (reads : List Read) (slots : List Slot) (stop : Option Stop) (desc serial tag : ℕ) (lots : List Lot) where
  abbrev before : TxnState
  before = state_of field p began reads slots stop desc serial tag lots

  -- a node that was taken since is an own one
  pub taken_own : IsPrepared before → (n : ℕ) → Contains (taken_since began p) n → HasNode (shape_in before) p.view n
  taken_own prepared n c = (All-contains (IsPreparedNode before) before.nodes (own_node field.origin.shape p n) prepared.nodes
      (map_in (own_node field.origin.shape p) (taken_since began p) n c)).own

  module _ (prepared : IsPrepared before) (q : PassView) (steps : List Step) (after : IsAfter field.origin.shape steps p.view q)
      (off : (n : ℕ) → HasNode field.origin.shape p.view n → (place : Place) → IsWordOf n place → All (λ s. s.word ≢ address field.origin.shape place) steps) where
    abbrev now : PassState
    now = record p { view = q }

    nodes_apart : map (own_node field.origin.shape now) (taken_since began now) ≡ map (own_node field.origin.shape p) (taken_since began p)
    nodes_apart = ap (λ (x : PassView). map (own_node field.origin.shape now) (flat_map (taken_of_lane began p) x.lanes)) after.1
        ∙ map_agree_on (own_node field.origin.shape now) (own_node field.origin.shape p) (taken_since began p)
        (λ n c. same_own p now steps (ap (λ (x : PassView). x.trail) after.1) field.origin.shape n (off n (taken_own prepared n c)))

    pub state_apart : (new : List Read) → state_of field now began new slots stop desc serial tag lots ≡ record before { pass = now; reads = new }
    state_apart new = ap (λ nodes. record (state_of field now began new slots stop desc serial tag lots) { nodes = nodes }) nodes_apart
        ∙ ap (λ (x : PassView). record before { pass = now; reads = new; hand = unwrap_or x.hand no_hand }) after.1
