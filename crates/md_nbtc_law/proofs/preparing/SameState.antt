-- What contracts see of a transaction after quiet steps of its pass.
use Rattle.std.proofs.Common.{◌≡◌, ◌==◌, ◌++◌, ◌∷◌, ℕ, List, [], map, Option, refl, ap, ◌∙◌, if◌then◌else◌, unwrap_or}
use Rattle.std.proofs.lemmas.Bool.{cond-false}
use Rattle.std.proofs.lemmas.List.Elements.{All-head, All-tail}
use Rattle.std.specs.List.{All, flat_map}
use Rattle.md_words.specs.declared.shape.Shape.{Shape}
use Rattle.md_words.specs.Content.{value_of}
use Rattle.md_words.specs.Layout.{address}
use Rattle.md_words.specs.Place.{node_key, node_next, node_value}
use Rattle.md_history.specs.declared.stops.Stop.{Stop}
use Rattle.md_machine.specs.declared.attempt.Read.{Read}
use Rattle.md_machine.specs.declared.pass.PassView.{PassView}
use Rattle.md_machine.specs.declared.step.Step.{Step}
use Rattle.md_machine.specs.Trail.{is_store}
use Rattle.md_rule.specs.Views.{FieldView, PassState}
use Rattle.md_help.specs.After.{IsAfter}
use Rattle.md_nbtc_law.specs.declared.slots.Lot.{Lot}
use Rattle.md_nbtc_law.specs.declared.slots.Slot.{Slot}
use Rattle.md_nbtc_law.specs.State.{last_stored, no_hand, own_node, state_of, stored_in, taken_of_lane, taken_since}
use Rattle.md_nbtc_law.proofs.preparing.Quiet.{IsQuiet}

-- two functions that agree give the same list
pub map_agree : {A B : Type 0} (f g : A → B) → ((x : A) → f x ≡ g x) → (xs : List A) → map f xs ≡ map g xs
map_agree f g same [] = refl
map_agree f g same (x ∷ xs) = ap (λ y. y ∷ map f xs) (same x) ∙ ap (λ l. g x ∷ l) (map_agree f g same xs)

-- steps that store nothing leave what was stored last
pub stored_quiet : (trail steps : List Step) (word held : ℕ) → All IsQuiet steps → last_stored (trail ++ steps) word held ≡ last_stored trail word held
stored_quiet [] [] word held quiet = refl
stored_quiet [] (s ∷ steps) word held quiet = ap (last_stored steps word)
    (cond-false (is_store s.kind) (if s.word == word then s.after else held) held (All-head IsQuiet s steps quiet).store)
    ∙ stored_quiet [] steps word held (All-tail IsQuiet s steps quiet)
stored_quiet (s ∷ trail) steps word held quiet = stored_quiet trail steps word (if is_store s.kind then (if s.word == word then s.after else held) else held) quiet

module _ (shape : Shape) (p : PassState) (q : PassView) (steps : List Step) (after : IsAfter shape steps p.view q) (quiet : All IsQuiet steps) where
  abbrev pub pass_after : PassState
  pass_after = record p { view = q }

  same_word : (word : ℕ) → stored_in pass_after word ≡ stored_in p word
  same_word word = ap (λ (x : PassView). last_stored x.trail word 0) after.1 ∙ stored_quiet p.view.trail steps word 0 quiet

  same_node : (s : Shape) (n : ℕ) → own_node s pass_after n ≡ own_node s p n
  same_node s n =
      ap (λ k. record { node = n; key = k; value = stored_in pass_after (address s (node_value n)); next = value_of (stored_in pass_after (address s (node_next n))) }) (same_word (address s (node_key n)))
      ∙ ap (λ v. record { node = n; key = stored_in p (address s (node_key n)); value = v; next = value_of (stored_in pass_after (address s (node_next n))) }) (same_word (address s (node_value n)))
      ∙ ap (λ x. record { node = n; key = stored_in p (address s (node_key n)); value = stored_in p (address s (node_value n)); next = value_of x }) (same_word (address s (node_next n)))

  same_taken : (began : PassState) → taken_since began pass_after ≡ taken_since began p
  same_taken began = ap (λ (x : PassView). flat_map (taken_of_lane began p) x.lanes) after.1

  pub same_nodes : (s : Shape) (began : PassState) → map (own_node s pass_after) (taken_since began pass_after) ≡ map (own_node s p) (taken_since began p)
  same_nodes s began = ap (map (own_node s pass_after)) (same_taken began) ∙ map_agree (own_node s pass_after) (own_node s p) (same_node s) (taken_since began p)

  pub same_state : (field : FieldView) (began : PassState) (reads : List Read) (slots : List Slot) (stop : Option Stop) (desc serial tag : ℕ) (lots : List Lot)
      → state_of field pass_after began reads slots stop desc serial tag lots ≡ record (state_of field p began reads slots stop desc serial tag lots) { pass = pass_after }
  same_state field began reads slots stop desc serial tag lots =
      let was = state_of field p began reads slots stop desc serial tag lots in
      let now = state_of field pass_after began reads slots stop desc serial tag lots in
      ap (λ nodes. record now { nodes = nodes }) (same_nodes field.origin.shape began)
      ∙ ap (λ (x : PassView). record was { pass = pass_after; hand = unwrap_or x.hand no_hand }) after.1
