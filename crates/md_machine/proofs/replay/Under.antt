-- The values under descriptors that stand in words stay as they were, after every event but ready.
use Rattle.std.proofs.Common.{◌≡◌, ◌⊎◌, ℕ, Bool, false, cond, List, set, refl, sym, ap, ◌∙◌, subst, inl, inr, ⊎_elim}
use Rattle.std.proofs.lemmas.Bool.{cases_Bool}
use Rattle.md_words.specs.declared.content.Spot.{Spot}
use Rattle.md_words.specs.Content.{value_of, count_of, is_even, spot_of}
use Rattle.md_words.specs.Status.{serial_of}
use Rattle.md_words.specs.Place.{desc_status, slot_old, slot_new}
use Rattle.md_words.specs.Layout.{address}
use Rattle.md_words.specs.LayoutLaws.{IsField}
use Rattle.md_words.specs.PlaceAt.{IsCounted}
use Rattle.md_machine.proofs.chain.Values.{installed_spot, unready_kept, value_even, value_odd}
use Rattle.md_machine.proofs.clauses.slots.Installs.{InstallsKept, installs-kept}
use Rattle.md_machine.proofs.clauses.slots.OddWords.{standing_serial}
use Rattle.md_machine.proofs.clauses.words.Stamps.{Stamp, StampsKept}
use Rattle.md_machine.proofs.events.Attempts.{attempt_same}
use Rattle.md_machine.proofs.events.MoveFacts.{MoveFacts}
use Rattle.md_machine.proofs.events.WordChanges.{Stores, at_left, at_place}
use Rattle.md_machine.specs.Installs.{spot_of_install}
use Rattle.md_machine.specs.Machine.{Machine, attempt_of, content, is_ready, present, shape_of, status_at, word_at}
use Rattle.md_machine.specs.Resolution.{is_kept, logical_value, value_under}
use Rattle.md_machine.specs.clauses.passes.Hands.{HandsFit}
use Rattle.md_machine.specs.clauses.slots.OddWords.{OddStand, StandsIn}
use Rattle.md_machine.specs.clauses.slots.Undecided.{UndecidedStand}

-- what the logical heap rests on
pub record Grounds (m : Machine) : Type 0 where
  pub field : IsField (shape_of m) m.words
  pub hands : HandsFit (shape_of m) m.words m.passes
  pub installs : InstallsKept (shape_of m) m.words m.installs m.passes
  pub odd_words : OddStand (shape_of m) m.words m.installs
  pub undecided : UndecidedStand (shape_of m) m.words m.installs
  pub stamp : Stamp
  pub stamps : StampsKept m stamp

-- what stands in a word names its slot
pub standing_spot : (m : Machine) (g : Grounds m) (word : ℕ) (s : StandsIn (shape_of m) m.words m.installs word) → spot_of (value_of (content m word)) ≡ spot_of_install s.install
standing_spot m g word s =
    let fits = g.installs.fits s.install s.made in
    ap (λ x. spot_of (value_of x)) s.holds ∙ installed_spot s.install fits.room (fits.slot s.present).exists.1

module _ (m n : Machine) (v : MoveFacts m n) (g : Grounds m) (choice : List Bool) where
  abbrev pub later : List ℕ
  later = set m.words v.word v.new

  -- the machine with the word changed
  abbrev pub changed_machine : Machine
  changed_machine = record m { words = later }

  -- whoever stores into a descriptor isn't kept
  not_kept : (desc : ℕ) → Stores m desc → is_kept m.history choice (present m desc) ≡ false
  not_kept desc s =
      let fits = g.hands.fits s.pass s.p s.h s.at s.held in
      let is : present m desc ≡ s.h.attempt = sym (attempt_same s.h.attempt (present m desc) s.of (fits.present ∙ ap (λ d. serial_of (status_at m d)) s.of)) in
      unready_kept m.history choice (present m desc) (ap (is_ready m.history) is ∙ s.unready)

  -- the value under what stands in a word
  under_stays : (word : ℕ) → IsCounted (shape_of m) word → is_even (count_of (content m word)) ≡ false → (s : StandsIn (shape_of m) m.words m.installs word)
      → value_under changed_machine choice (spot_of_install s.install) ≡ value_under m choice (spot_of_install s.install)
  under_stays word counted odd s =
      let i = s.install in
      let d = i.attempt.desc in
      let desc : (spot_of (value_of (content m word))).desc ≡ d = ap (λ (x : Spot). x.desc) (standing_spot m g word s) in
      let serial : serial_of (word_at (shape_of m) later (desc_status d)) ≡ serial_of (status_at m d) =
      sym (subst (λ x. serial_of (status_at m x) ≡ serial_of (word_at (shape_of m) later (desc_status x))) desc (standing_serial m g.stamp g.stamps g.installs n v g.field g.hands g.odd_words word counted odd).1) in
      let before = (g.installs.fits i s.made).slot s.present in
      let kept = installs-kept m n v g.field g.hands g.installs in
      let after = (kept.fits i (v.installs_stay i s.made)).slot (s.present ∙ sym serial) in
      let is : present changed_machine d ≡ present m d = ap (attempt_of d) serial in
      let new : (word_at (shape_of m) later (slot_new d i.slot) ≡ word_at (shape_of m) m.words (slot_new d i.slot)) ⊎ (is_kept m.history choice (present m d) ≡ false) =
      at_left (Unit {0}) m g.field v.word v.new (address (shape_of m) (slot_new d i.slot)) (λ x. (x ≡ word_at (shape_of m) m.words (slot_new d i.slot)) ⊎ (is_kept m.history choice (present m d) ≡ false)) v.left
      (λ ch q. inr (not_kept d (at_place (Unit {0}) m g.field v.word v.new (slot_new d i.slot) before.exists ch q).1)) (inl refl) in
      let new_before = word_at (shape_of m) m.words (slot_new d i.slot) in
      let new_after = word_at (shape_of m) later (slot_new d i.slot) in
      let old_before = value_of (word_at (shape_of m) m.words (slot_old d i.slot)) in
      ap (λ a. cond (is_kept m.history choice a) new_after (value_of (word_at (shape_of m) later (slot_old d i.slot)))) is
      ∙ ap (λ x. cond (is_kept m.history choice (present m d)) new_after (value_of x)) (after.old ∙ sym before.old)
      ∙ ⊎_elim
      (λ same. ap (λ x. cond (is_kept m.history choice (present m d)) x old_before) same)
      (λ none. ap (λ b. cond b new_after old_before) none ∙ sym (ap (λ b. cond b new_before old_before) none))
      new

  -- so a word that isn't changed stands for what it stood for
  pub value_stays : (word : ℕ) → IsCounted (shape_of m) word → content changed_machine word ≡ content m word → logical_value changed_machine choice word ≡ logical_value m choice word
  value_stays word counted same = ⊎_elim
      (λ even.
      value_even changed_machine choice word counted (ap (λ x. is_even (count_of x)) same ∙ even) ∙ ap value_of same ∙ sym (value_even m choice word counted even))
      (λ odd.
      let s = g.odd_words word counted odd in
      let spot = standing_spot m g word s in
      value_odd changed_machine choice word counted (ap (λ x. is_even (count_of x)) same ∙ odd)
      ∙ ap (λ x. value_under changed_machine choice (spot_of (value_of x))) same
      ∙ ap (value_under changed_machine choice) spot
      ∙ under_stays word counted odd s
      ∙ sym (value_odd m choice word counted odd ∙ ap (value_under m choice) spot))
      (cases_Bool (is_even (count_of (content m word))))
