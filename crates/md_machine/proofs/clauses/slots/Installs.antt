-- The installs of present attempts: their slots stand, they are steps of the trail of whoever has the lane, and an odd
-- word holds one of them.
use Rattle.std.proofs.Common.{◌≡◌, ℕ, ◌<◌, ◌≤◌, ◌&&◌, true, false, List, [], ◌∷◌, set, refl, sym, ap, ◌∙◌, subst, ⊎_elim, eqb, eq-eqb, le_of_eq, get_or-set_other, arith}
use Rattle.std.specs.List.{Contains}
use Rattle.std.proofs.lemmas.Bool.{or_left, or_right, and_from, true≢false, false≢true}
use Rattle.std.proofs.lemmas.List.Elements.{Contains-push}
use Rattle.md_words.specs.declared.shape.Shape.{Shape}
use Rattle.md_words.specs.Content.{count_of, is_even}
use Rattle.md_words.specs.Status.{serial_of}
use Rattle.md_words.specs.Place.{Place, desc_status, slot_word, slot_old, is_counted}
use Rattle.md_words.specs.Layout.{address, desc_count, Exists}
use Rattle.md_words.specs.LayoutLaws.{IsField}
use Rattle.md_words.specs.PlaceAt.{place_at, IsCounted}
use Rattle.md_words.proofs.Places.{place_at-address}
use Rattle.md_machine.specs.declared.attempt.AttemptId.{AttemptId}
use Rattle.md_machine.specs.declared.step.TheConstants.{LAST_COUNT}
use Rattle.md_machine.specs.declared.pass.PassView.{PassView}
use Rattle.md_machine.proofs.clauses.passes.LanesApart.{At}
use Rattle.md_machine.proofs.events.Attempts.{same_from}
use Rattle.md_machine.proofs.events.InstallSteps.{InstallStep, InstallsHere}
use Rattle.md_machine.proofs.events.MoveFacts.{MoveFacts}
use Rattle.md_machine.proofs.events.Holders.{held_before}
use Rattle.md_machine.proofs.events.WordChanges.{StoresSlot, at_left, at_place, statuses_go_on}
use Rattle.md_machine.proofs.lists.Rising.{in_cons, in_none}
use Rattle.md_machine.specs.GoesOn.{StatusGoesOn}
use Rattle.md_machine.specs.Machine.{Install, Machine, is_installed, present, same_attempt, shape_of, status_at, word_at, IsPresentIn}
use Rattle.md_machine.specs.Own.{HasDesc}
use Rattle.md_machine.specs.Trail.{SomeStepOf}
use Rattle.md_machine.specs.clauses.passes.Hands.{HandsFit}
use Rattle.md_machine.specs.clauses.slots.Slots.{SlotStands}

-- no install is of an attempt that is still to come, and those of present ones have their slots
pub record InstallFits (shape : Shape) (words : List ℕ) (i : Install) : Type 0 where
  pub exists : i.attempt.desc < desc_count shape
  pub past : i.attempt.serial ≤ serial_of (word_at shape words (desc_status i.attempt.desc))
  pub room : count_of i.old ≤ LAST_COUNT
  pub even : is_even (count_of i.old) ≡ true
  pub slot : IsPresentIn shape words i.attempt → SlotStands shape words i

pub record InstallsKept (shape : Shape) (words : List ℕ) (installs : List Install) (passes : List PassView) : Type 0 where
  pub fits : (i : Install) → Contains installs i → InstallFits shape words i
  pub held : (i : Install) → Contains installs i → IsPresentIn shape words i.attempt → (pass : ℕ) (p : PassView) → At passes pass p → HasDesc shape p i.attempt.desc → SomeStepOf p (InstallStep i)

-- an installed slot is one
installed_in : (is : List Install) (i : Install) (a : AttemptId) → Contains is i → i.attempt.desc ≡ a.desc → i.attempt.serial ≡ a.serial → is_installed is a i.slot ≡ true
installed_in [] i a c d s = absurd (in_none i c)
installed_in (x ∷ xs) i a c d s = ⊎_elim
    (λ e. or_left (same_attempt x.attempt a && (eqb x.slot i.slot)) (is_installed xs a i.slot)
    (and_from _ _ (same_from x.attempt a (ap (λ (y : Install). y.attempt.desc) e ∙ d) (ap (λ (y : Install). y.attempt.serial) e ∙ s)) (eq-eqb x.slot i.slot (ap (λ (y : Install). y.slot) e))))
    (λ later. or_right (same_attempt x.attempt a && (eqb x.slot i.slot)) (is_installed xs a i.slot) (installed_in xs i a later d s))
    (in_cons x xs i c)

module _ (m n : Machine) (v : MoveFacts m n) (field : IsField (shape_of m) m.words) (hands : HandsFit (shape_of m) m.words m.passes) (k : InstallsKept (shape_of m) m.words m.installs m.passes) where
  abbrev later : List ℕ
  later = set m.words v.word v.new

  -- a serial never falls, and an install that is present afterwards was present
  goes_on : (i : Install) → i.attempt.desc < desc_count (shape_of m) → StatusGoesOn (status_at m i.attempt.desc) (word_at (shape_of m) later (desc_status i.attempt.desc))
  goes_on i exists = statuses_go_on (Unit {0}) m field v.word v.new v.left i.attempt.desc exists

  pub was_present : (i : Install) → InstallFits (shape_of m) m.words i → IsPresentIn (shape_of m) later i.attempt → IsPresentIn (shape_of m) m.words i.attempt
  was_present i fits now = let past = fits.past in ⊎_elim (λ more. absurd (omega (arith, more, past, now))) (λ same. now ∙ sym same.serial) (goes_on i fits.exists)

  -- nobody stores to the slot of a present install
  slot_kept : (i : Install) → Contains m.installs i → IsPresentIn (shape_of m) m.words i.attempt → StoresSlot m i.attempt.desc i.slot → ⊥
  slot_kept i c present s =
      let h = s.stores.h in
      let fits = hands.fits s.stores.pass s.stores.p h s.stores.at s.stores.held in
      true≢false (sym (installed_in m.installs i h.attempt c (sym s.stores.of) (present ∙ ap (λ d. serial_of (status_at m d)) (sym s.stores.of) ∙ sym fits.present)) ∙ s.free)

  old_fits : (i : Install) → Contains m.installs i → InstallFits (shape_of m) m.words i → InstallFits (shape_of m) later i
  old_fits i c fits = record {
    exists = fits.exists;
    room = fits.room;
    even = fits.even;
    past = let past = fits.past in ⊎_elim (λ more. omega (arith, more, past)) (λ same. let equal = same.serial in omega (arith, equal, past)) (goes_on i fits.exists);
    slot = λ now. let present = was_present i fits now in let s = fits.slot present in record {
      exists = s.exists;
      word = at_left (Unit {0}) m field v.word v.new (address (shape_of m) (slot_word i.attempt.desc i.slot)) (λ x. x ≡ i.word) v.left
          (λ ch q. absurd (slot_kept i c present (at_place (Unit {0}) m field v.word v.new (slot_word i.attempt.desc i.slot) s.exists ch q).1)) s.word;
      old = at_left (Unit {0}) m field v.word v.new (address (shape_of m) (slot_old i.attempt.desc i.slot)) (λ x. x ≡ i.old) v.left
          (λ ch q. absurd (slot_kept i c present (at_place (Unit {0}) m field v.word v.new (slot_old i.attempt.desc i.slot) s.exists ch q))) s.old;
    };
  }

  -- a change of a counted word leaves every other place as it was
  aside : IsCounted (shape_of m) v.word → (q : Place) → Exists (shape_of m) q → is_counted q ≡ false → word_at (shape_of m) later q ≡ word_at (shape_of m) m.words q
  aside counted q exists plain = get_or-set_other m.words v.word (address (shape_of m) q) v.new 0
      (λ e. false≢true (sym plain ∙ ap is_counted (sym (place_at-address (shape_of m) q exists) ∙ ap (place_at (shape_of m)) e) ∙ counted.1))

  pub new_present : (i : Install) → InstallsHere m v.step n.passes v.word i → IsPresentIn (shape_of m) later i.attempt
  new_present i h = h.present ∙ ap serial_of (sym (aside (subst (IsCounted (shape_of m)) h.there h.counted) (desc_status i.attempt.desc) h.slot.exists.0 refl))

  new_fits : (i : Install) → InstallsHere m v.step n.passes v.word i → InstallFits (shape_of m) later i
  new_fits i h =
      let counted = subst (IsCounted (shape_of m)) h.there h.counted in record {
        exists = h.slot.exists.0;
        room = h.step.room;
        even = h.step.even;
        past = le_of_eq (new_present i h);
        slot = λ _. record {
          exists = h.slot.exists;
          word = aside counted (slot_word i.attempt.desc i.slot) h.slot.exists refl ∙ h.slot.word;
          old = aside counted (slot_old i.attempt.desc i.slot) h.slot.exists refl ∙ h.slot.old;
        };
      }

  -- whoever holds the lane afterwards has the steps of whoever held it
  old_held : (i : Install) → Contains m.installs i → IsPresentIn (shape_of m) later i.attempt → (j : ℕ) (u : PassView) → At n.passes j u → HasDesc (shape_of m) u i.attempt.desc
      → SomeStepOf u (InstallStep i)
  old_held i c now j u at own =
      let from = held_before m.passes n.passes v.step v.from j u at own.0 own.1 in
      let made = k.held i c (was_present i (k.fits i c) now) from.0 from.1 from.2 (own.0, from.3, own.2) in
      let has = from.4 made.2.0 (made.0, made.1, made.2.1) in
      (has.0, has.1, (made.2.0, has.2, made.2.2))

  pub installs-kept : InstallsKept (shape_of m) later n.installs n.passes
  installs-kept = record {
    fits = λ i c. ⊎_elim (λ old. old_fits i old (k.fits i old)) (new_fits i) (v.installs i c);
    held = λ i c now j u at own. ⊎_elim
        (λ old. old_held i old now j u at own)
        (λ h. (u.trail, Contains-push u.past u.trail, (v.step, h.held j u at own, h.step)))
        (v.installs i c);
  }
