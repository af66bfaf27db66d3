-- The slots of a present attempt's entry stay those that it installed, after every event.
use Rattle.std.proofs.Common.{◌≡◌, ℕ, ◌≤◌, ◌<◌, List, set, refl, sym, ap, ◌∙◌, subst, ⊎_elim, arith}
use Rattle.std.specs.List.{Contains}
use Rattle.std.proofs.lemmas.Bool.{true≢false}
use Rattle.md_words.specs.Status.{serial_of}
use Rattle.md_words.specs.Place.{desc_status, slot_new}
use Rattle.md_words.specs.Layout.{address, desc_count, Exists}
use Rattle.md_words.specs.LayoutLaws.{IsField}
use Rattle.md_words.specs.PlaceAt.{place_at}
use Rattle.md_words.proofs.Places.{place_at-address}
use Rattle.md_machine.specs.declared.attempt.AttemptId.{AttemptId}
use Rattle.md_machine.specs.declared.attempt.HistoryEntry.{HistoryEntry}
use Rattle.md_machine.specs.declared.attempt.Write.{Write}
use Rattle.md_machine.specs.declared.opening.Opening.{Opening}
use Rattle.md_machine.proofs.clauses.entries.EntriesFit.{not_stored}
use Rattle.md_machine.proofs.clauses.slots.Installs.{InstallsKept, was_present}
use Rattle.md_machine.proofs.events.Attempts.{attempt_same, ready_in, same_from, same_parts}
use Rattle.md_machine.proofs.events.MoveFacts.{Enters, MoveFacts, new_entry}
use Rattle.md_machine.proofs.events.Moves.{own_exists}
use Rattle.md_machine.proofs.events.WordChanges.{Stores, at_left, at_place, statuses_go_on}
use Rattle.md_machine.proofs.lists.Rising.{filter_in, in_filter, in_map, map_in}
use Rattle.md_machine.specs.Machine.{Install, IsPresentIn, Machine, same_attempt, shape_of, status_at, word_at}
use Rattle.md_machine.specs.clauses.passes.Hands.{HandsFit}
use Rattle.md_machine.specs.events.Ready.{history_entry, installs_by, write_now, writes_now}

-- the slots of an entry are those that its attempt installed, each with its word, its old content, and the new value
-- that stands in the descriptor
pub record SlotsAreInstalls (m : Machine) (e : HistoryEntry) : Type 0 where
  pub made : (w : Write) → Contains e.writes w → (i : Install) × Contains m.installs i × (i.attempt ≡ e.attempt) × (write_now m i ≡ w)
  pub all : (i : Install) → Contains m.installs i → i.attempt ≡ e.attempt → Contains e.writes (write_now m i)

-- so it is of every entry whose attempt is the present one of its descriptor
abbrev pub EntriesKeepSlots : Machine → Type 0
EntriesKeepSlots m = (e : HistoryEntry) → Contains m.history e → IsPresentIn (shape_of m) m.words e.attempt → SlotsAreInstalls m e

-- an entry that has the slots of its attempt
has_now : (m : Machine) (e : HistoryEntry) → e.writes ≡ writes_now m e.attempt → SlotsAreInstalls m e
has_now m e is = record {
  made = λ w c.
      let x = in_map (write_now m) (installs_by m.installs e.attempt) w (subst (λ ws. Contains ws w) is c) in
      let f = in_filter (λ (i : Install). same_attempt i.attempt e.attempt) m.installs x.0 x.1 in
      let parts = same_parts x.0.attempt e.attempt f.1 in
      (x.0, f.0, attempt_same x.0.attempt e.attempt parts.0 parts.1, x.2);
  all = λ i c same. subst (λ ws. Contains ws (write_now m i)) (sym is) (map_in (write_now m) (installs_by m.installs e.attempt) i
      (filter_in (λ (i : Install). same_attempt i.attempt e.attempt) m.installs i c (same_from i.attempt e.attempt (ap (λ (a : AttemptId). a.desc) same) (ap (λ (a : AttemptId). a.serial) same))));
}

abbrev write_with : Install → ℕ → Write
write_with i new = record { slot = i.slot; word = i.word; old = i.old; new = new }

slot_no_status : (d j e : ℕ) → slot_new d j ≡ desc_status e → ⊥
slot_no_status d j e same = cc

module _ (m n : Machine) (v : MoveFacts m n) (field : IsField (shape_of m) m.words) (hands : HandsFit (shape_of m) m.words m.passes) (k : InstallsKept (shape_of m) m.words m.installs m.passes) where
  abbrev later : List ℕ
  later = set m.words v.word v.new

  -- nobody changes the new value of a slot
  abbrev Untouched : Install → Type 0
  Untouched i = Exists (shape_of m) (slot_new i.attempt.desc i.slot) → Stores m i.attempt.desc → address (shape_of m) (slot_new i.attempt.desc i.slot) ≡ v.word → ⊥

  value_stays : (i : Install) → Contains m.installs i → IsPresentIn (shape_of m) later i.attempt → Untouched i
      → word_at (shape_of m) later (slot_new i.attempt.desc i.slot) ≡ word_at (shape_of m) m.words (slot_new i.attempt.desc i.slot)
  value_stays i c now untouched =
      let place = slot_new i.attempt.desc i.slot in
      let s = (k.fits i c).slot (was_present m n v field hands k i (k.fits i c) now) in
      at_left (Unit {0}) m field v.word v.new (address (shape_of m) place) (λ x. x ≡ word_at (shape_of m) m.words place) v.left
      (λ ch q. absurd (untouched s.exists (at_place (Unit {0}) m field v.word v.new place s.exists ch q).1 q)) refl

  write_stays : (i : Install) → Contains m.installs i → IsPresentIn (shape_of m) later i.attempt → Untouched i → write_now n i ≡ write_now m i
  write_stays i c now untouched =
      let place = slot_new i.attempt.desc i.slot in
      let old = word_at (shape_of m) m.words place in
      ap (write_with i) (subst (λ (o : Opening). word_at o.shape n.words place ≡ old) (sym v.opening) (subst (λ ws. word_at (shape_of m) ws place ≡ old) (sym v.words) (value_stays i c now untouched)))

  -- slots that nobody touches stay, if no install is added
  slots_on : (e : HistoryEntry) → SlotsAreInstalls m e → IsPresentIn (shape_of m) later e.attempt
      → ((i : Install) → i.attempt ≡ e.attempt → Untouched i) → ((i : Install) → Contains n.installs i → i.attempt ≡ e.attempt → Contains m.installs i) → SlotsAreInstalls n e
  slots_on e was now untouched none =
      let present_now : (i : Install) → i.attempt ≡ e.attempt → IsPresentIn (shape_of m) later i.attempt = λ i same. subst (λ (a : AttemptId). IsPresentIn (shape_of m) later a) (sym same) now in
      record {
        made = λ w c. let x = was.made w c in (x.0, v.installs_stay x.0 x.1, x.2, write_stays x.0 x.1 (present_now x.0 x.2) (untouched x.0 x.2) ∙ x.3);
        all = λ i c same. let old = none i c same in subst (Contains e.writes) (sym (write_stays i old (present_now i same) (untouched i same))) (was.all i old same);
      }

  old_entry : (e : HistoryEntry) → Contains m.history e → IsPresentIn (shape_of m) m.words e.attempt → SlotsAreInstalls m e
      → IsPresentIn (shape_of m) later e.attempt → SlotsAreInstalls n e
  old_entry e c before was now = slots_on e was now
      (λ i same exists s q. not_stored m hands e c before (subst (λ (a : AttemptId). Stores m a.desc) same s))
      (λ i made same. ⊎_elim (λ old. old)
      (λ h. absurd (true≢false (sym (ready_in m.history e i.attempt c (ap (λ (a : AttemptId). a.desc) (sym same)) (ap (λ (a : AttemptId). a.serial) (sym same))) ∙ h.unready)))
      (v.installs i made))

  of_new : (x : Enters m n v.p v.word v.new) → IsPresentIn (shape_of m) later x.hand.attempt → SlotsAreInstalls n (history_entry m x.hand x.certificates x.count)
  of_new x now = slots_on (history_entry m x.hand x.certificates x.count) (has_now m (history_entry m x.hand x.certificates x.count) refl) now
      (λ i same exists s q. slot_no_status i.attempt.desc i.slot x.hand.attempt.desc (sym (place_at-address (shape_of m) (slot_new i.attempt.desc i.slot) exists) ∙ ap (place_at (shape_of m)) (q ∙ x.there)
      ∙ place_at-address (shape_of m) (desc_status x.hand.attempt.desc) (own_exists m v.p _ x.own)))
      (λ i made same. subst (λ is. Contains is i) x.installs made)

  -- every event keeps it
  pub entry_slots-kept : ((e : HistoryEntry) → Contains m.history e → (e.attempt.desc < desc_count (shape_of m)) × (e.attempt.serial ≤ serial_of (status_at m e.attempt.desc))) → EntriesKeepSlots m
      → (e : HistoryEntry) → Contains n.history e → IsPresentIn (shape_of m) later e.attempt → SlotsAreInstalls n e
  entry_slots-kept fits was e c now = ⊎_elim
      (λ old.
      let past = (fits e old).1 in
      let before : IsPresentIn (shape_of m) m.words e.attempt = ⊎_elim (λ more. absurd (omega (arith, more, past, now))) (λ same. now ∙ sym same.serial) (statuses_go_on (Unit {0}) m field v.word v.new v.left e.attempt.desc (fits e old).0) in
      old_entry e old before (was e old before) now)
      (λ y. subst (SlotsAreInstalls n) y.1 (of_new y.0 (subst (λ (z : HistoryEntry). IsPresentIn (shape_of m) later z.attempt) (sym y.1) now)))
      (new_entry m n v e c)
