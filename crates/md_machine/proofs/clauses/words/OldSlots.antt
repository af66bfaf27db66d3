-- A load of a slot's old content, made after the descriptor was met in a word where it still stands, found what stands
-- in the slot now.
use Rattle.std.proofs.Common.{◌≡◌, ℕ, List, slice_index, sym, ap, ◌∙◌, subst, set, get_or, false}
use Rattle.md_words.specs.declared.content.Spot.{Spot}
use Rattle.md_words.specs.declared.shape.Shape.{Shape}
use Rattle.md_words.specs.Content.{count_of, is_even, spot_of, value_of}
use Rattle.md_words.specs.Place.{slot_old}
use Rattle.md_words.specs.Layout.{address}
use Rattle.md_words.specs.LayoutLaws.{IsField}
use Rattle.md_words.specs.PlaceAt.{IsCounted}
use Rattle.md_words.specs.Status.{serial_of}
use Rattle.md_words.specs.Place.{desc_status}
use Rattle.md_machine.specs.declared.step.Step.{Step}
use Rattle.md_machine.proofs.chain.Values.{installed_spot}
use Rattle.md_machine.proofs.clauses.words.Brackets.{MetStanding, met_before, stood}
use Rattle.md_machine.proofs.clauses.slots.Installs.{InstallsKept, installs-kept}
use Rattle.md_machine.proofs.clauses.slots.OddWords.{standing_serial}
use Rattle.md_machine.proofs.clauses.words.Stamps.{Stamp, StampsKept}
use Rattle.md_machine.proofs.events.MoveFacts.{MoveFacts}
use Rattle.md_machine.proofs.events.Steps.{HasStep}
use Rattle.md_machine.proofs.lists.Pairs.{EachPair, pairs-kept}
use Rattle.md_machine.specs.Installs.{spot_of_install}
use Rattle.md_machine.specs.Machine.{Machine, content, shape_of, status_at, word_at}
use Rattle.md_machine.specs.clauses.passes.Hands.{HandsFit}
use Rattle.md_machine.specs.clauses.words.Brackets.{MeetsOdd}
use Rattle.md_machine.specs.clauses.slots.OddWords.{OddStand}

-- the slot that a word with this content names, and where its old content stands
abbrev pub spot_in_word : ℕ → Spot
spot_in_word held = spot_of (value_of held)

abbrev pub old_place : Shape → (held : ℕ) → ℕ
old_place shape held = address shape (slot_old (spot_in_word held).desc (spot_in_word held).slot)

-- where a step met what stands in its word now, with an odd count, a later step on the old content of the slot there
-- found what stands in the slot now
abbrev pub OldSlotStands : Shape → List ℕ → (s t : Step) → Type 0
OldSlotStands shape words s t = let held = slice_index words s.word in MeetsOdd shape s.word held s → t.word ≡ old_place shape held
    → t.before ≡ slice_index words t.word

module _ (m : Machine) (stamp : Stamp) (stamps : StampsKept m stamp) (k : InstallsKept (shape_of m) m.words m.installs m.passes)
    (n : Machine) (v : MoveFacts m n) (field : IsField (shape_of m) m.words) (hands : HandsFit (shape_of m) m.words m.passes) (odd_stand : OddStand (shape_of m) m.words m.installs) where
  abbrev later : List ℕ
  later = set m.words v.word v.new

  -- the old content of a slot that stands in a word stays
  old_stays : (w : ℕ) → IsCounted (shape_of m) w → is_even (count_of (content m w)) ≡ false
      → get_or later (old_place (shape_of m) (content m w)) 0 ≡ content m (old_place (shape_of m) (content m w))
  old_stays w counted odd =
      let s = odd_stand w counted odd in
      let i = s.install in
      let fits = k.fits i s.made in
      let before = fits.slot s.present in
      let spot : spot_in_word (content m w) ≡ spot_of_install i = ap spot_in_word s.holds ∙ installed_spot i fits.room before.exists.1 in
      let desc = ap (λ (x : Spot). x.desc) spot in
      let serial = (standing_serial m stamp stamps k n v field hands odd_stand w counted odd).1 in
      let same : serial_of (status_at m i.attempt.desc) ≡ serial_of (word_at (shape_of m) later (desc_status i.attempt.desc)) = subst (λ d. serial_of (status_at m d) ≡ serial_of (word_at (shape_of m) later (desc_status d))) desc serial in
      let kept = installs-kept m n v field hands k in
      let after = (kept.fits i (v.installs_stay i s.made)).slot (s.present ∙ same) in
      subst (λ (x : Spot). get_or later (address (shape_of m) (slot_old x.desc x.slot)) 0 ≡ content m (address (shape_of m) (slot_old x.desc x.slot))) (sym spot) (after.old ∙ sym before.old)

  -- what a step met and stands afterwards names the same slot, whose old content stays
  place_stays : (s : Step) → HasStep m.passes s → (met : MetStanding (shape_of m) later s) → (t : Step)
      → t.word ≡ old_place (shape_of m) (get_or later s.word 0)
      → (t.word ≡ old_place (shape_of m) (content m s.word)) × (get_or later t.word 0 ≡ content m t.word)
  place_stays s has met t at =
      let same = stood m stamp stamps k n v field hands odd_stand s has met in
      let was = met_before m stamp stamps k n v field hands odd_stand s has met in
      let there = at ∙ ap (old_place (shape_of m)) same in
      (there, ap (λ w. get_or later w 0) there ∙ old_stays s.word was.counted was.odd ∙ ap (content m) (sym there))

  old_pair : (s t : Step) → HasStep m.passes s → OldSlotStands (shape_of m) m.words s t → OldSlotStands (shape_of m) later s t
  old_pair s t has was met at =
      let same = place_stays s has met t at in
      was (met_before m stamp stamps k n v field hands odd_stand s has met) same.0 ∙ sym same.1

  new_pair : (s : Step) → HasStep m.passes s → OldSlotStands (shape_of m) later s v.step
  new_pair s has met at = v.before ∙ ap (content m) (sym v.there) ∙ sym (place_stays s has met v.step at).1

  pub old_slots-kept : EachPair (OldSlotStands (shape_of m) m.words) m.passes → EachPair (OldSlotStands (shape_of m) later) n.passes
  old_slots-kept = pairs-kept m.passes n.passes v.step (OldSlotStands (shape_of m) m.words) (OldSlotStands (shape_of m) later) v.from old_pair new_pair
