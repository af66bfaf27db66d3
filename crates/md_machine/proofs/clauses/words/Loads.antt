-- Loads of a ready attempt's reads and slots agree with what stands there, after every event.
use Rattle.std.proofs.Common.{◌≡◌, ◌≢◌, ℕ, ◌<◌, ◌≤◌, sym, ap, ◌∙◌, subst, ⊎_elim, set, get_or, get_or-set_other, arith}
use Rattle.std.specs.List.{Contains}
use Rattle.std.proofs.lemmas.Bool.{cases_eq, true≢false}
use Rattle.md_words.specs.declared.status.Status.TheVariants.{InPrep}
use Rattle.md_words.specs.Status.{status_of, serial_of}
use Rattle.md_words.specs.Place.{desc_status}
use Rattle.md_words.specs.Layout.{address, desc_count}
use Rattle.md_words.specs.LayoutLaws.{IsField}
use Rattle.md_words.specs.PlaceAt.{place_at}
use Rattle.md_words.proofs.Words.{status_of-status_word, serial_of-status_word}
use Rattle.md_machine.specs.declared.step.Step.{Step}
use Rattle.md_machine.specs.declared.attempt.HistoryEntry.{HistoryEntry}
use Rattle.md_machine.proofs.clauses.words.Statuses.{NotedStatus, StatusesNoted}
use Rattle.md_machine.proofs.events.Attempts.{ready_in}
use Rattle.md_machine.proofs.events.MoveFacts.{Enters, MoveFacts, new_entry, words_same}
use Rattle.md_machine.proofs.events.Moves.{own_exists}
use Rattle.md_machine.proofs.events.Steps.{HasStep}
use Rattle.md_machine.proofs.events.WordChanges.{statuses_go_on}
use Rattle.md_machine.proofs.lists.Pairs.{EachPair, pairs-kept}
use Rattle.md_machine.specs.Machine.{IsPresentIn, Machine, content, present, shape_of, status_at}
use Rattle.md_machine.specs.clauses.passes.Hands.{HandsFit}
use Rattle.md_machine.specs.clauses.words.Loads.{LoadStands, MeetsReady}
use Rattle.md_machine.specs.clauses.words.Stores.{IsEntryWord}
use Rattle.md_machine.specs.events.Ready.{unready_word}

-- what is known of the entries before a move: their descriptors exist, and none is of a later attempt than the present one
abbrev pub EntriesPast : Machine → Type 0
EntriesPast m = (e : HistoryEntry) → Contains m.history e → (e.attempt.desc < desc_count (shape_of m)) × (e.attempt.serial ≤ serial_of (status_at m e.attempt.desc))

module _ (m n : Machine) (v : MoveFacts m n) (field : IsField (shape_of m) m.words) (hands : HandsFit (shape_of m) m.words m.passes) (statuses : StatusesNoted (shape_of m) m.words m.passes) (past : EntriesPast m) where
  -- an entry of a present attempt was of one, if it was there
  pub was_present_entry : (e : HistoryEntry) → Contains m.history e → IsPresentIn (shape_of m) n.words e.attempt → IsPresentIn (shape_of m) m.words e.attempt
  was_present_entry e c now =
      let fits = past e c in let before = fits.1 in
      let now_set : IsPresentIn (shape_of m) (set m.words v.word v.new) e.attempt = subst (λ ws. IsPresentIn (shape_of m) ws e.attempt) v.words now in
      ⊎_elim (λ more. absurd (omega (arith, more, before, now_set))) (λ same. now_set ∙ sym same.serial) (statuses_go_on (Unit {0}) m field v.word v.new v.left e.attempt.desc fits.0)

  pub other_word : (w : ℕ) → w ≢ v.word → get_or n.words w 0 ≡ content m w
  other_word w ne = ap (λ ws. get_or ws w 0) v.words ∙ get_or-set_other m.words v.word w v.new 0 ne

  -- nobody changes a read or a slot of a present attempt that has an entry
  pub entry_word_stays : (e : HistoryEntry) → Contains m.history e → IsPresentIn (shape_of m) m.words e.attempt → (w : ℕ) → IsEntryWord e.attempt.desc (place_at (shape_of m) w) → get_or n.words w 0 ≡ content m w
  entry_word_stays e c present w is = ⊎_elim
      (λ here. ⊎_elim
      (λ same. ap (λ ws. get_or ws w 0) (words_same m n v same))
      (λ s.
      let fits = hands.fits s.pass s.p s.h s.at s.held in
      absurd (true≢false (sym (ready_in m.history e s.h.attempt c (sym s.of) (present ∙ ap (λ d. serial_of (status_at m d)) (sym s.of) ∙ sym fits.present)) ∙ s.unready)))
      (v.entry e.attempt.desc (subst (λ x. IsEntryWord e.attempt.desc (place_at (shape_of m) x)) here is)))
      (other_word w)
      (cases_eq w v.word)

  -- before an attempt becomes ready, no step met it so
  pub not_ready_before : (x : Enters m n v.p v.word v.new) (s : Step) → HasStep m.passes s → MeetsReady (shape_of m) x.hand.attempt s → ⊥
  not_ready_before x s has (held, meets, serial, ready) =
      let a = x.hand.attempt in
      let exists = own_exists m v.p a.desc x.own in
      let unready : status_at m a.desc ≡ unready_word a = ap (content m) (sym x.there) ∙ x.was in
      let at : s.word ≡ address (shape_of m) (desc_status a.desc) = ⊎_elim (λ f. f.there) (λ l. l.there) meets in
      let known = statuses s has a.desc exists at in
      let noted : NotedStatus (status_at m a.desc) held = ⊎_elim (λ f. subst (NotedStatus (status_at m a.desc)) f.before known.0) (λ l. subst (NotedStatus (status_at m a.desc)) l.after known.1) meets in
      ready (noted.unready (ap status_of unready ∙ status_of-status_word InPrep 0 a.serial) (serial ∙ sym (ap serial_of unready ∙ serial_of-status_word InPrep 0 a.serial (omega arith))))

  -- steps that were there
  old_loads : (s t : Step) → HasStep m.passes s → LoadStands (shape_of m) m.words m.history s t → LoadStands (shape_of m) n.words n.history s t
  old_loads s t has was e c now meets is plain = ⊎_elim
      (λ old. let present = was_present_entry e old now in was e old present meets is plain ∙ sym (entry_word_stays e old present t.word is))
      (λ new. absurd (not_ready_before new.0 s has (subst (λ (x : HistoryEntry). MeetsReady (shape_of m) x.attempt s) (sym new.1) meets)))
      (new_entry m n v e c)

  -- and the new one
  new_load : (s : Step) → HasStep m.passes s → LoadStands (shape_of m) n.words n.history s v.step
  new_load s has e c now meets is plain = ⊎_elim
      (λ old. let present = was_present_entry e old now in v.before ∙ ap (content m) (sym v.there) ∙ sym (entry_word_stays e old present v.step.word is))
      (λ new. absurd (not_ready_before new.0 s has (subst (λ (x : HistoryEntry). MeetsReady (shape_of m) x.attempt s) (sym new.1) meets)))
      (new_entry m n v e c)

  pub loads-kept : EachPair (LoadStands (shape_of m) m.words m.history) m.passes → EachPair (LoadStands (shape_of m) n.words n.history) n.passes
  loads-kept = pairs-kept m.passes n.passes v.step (LoadStands (shape_of m) m.words m.history) (LoadStands (shape_of m) n.words n.history) v.from old_loads new_load
