-- A present attempt that is in progress or committed has an entry, after every event.
use Rattle.std.proofs.Common.{◌≡◌, ℕ, ◌<◌, ◌⊎◌, List, sym, ap, ◌∙◌, subst, inl, ⊎_elim, set}
use Rattle.std.specs.List.{Contains}
use Rattle.std.proofs.lemmas.Bool.{cases_eq}
use Rattle.std.proofs.lemmas.List.Elements.{Contains-append_left, Contains-push}
use Rattle.md_words.specs.declared.shape.Shape.{Shape}
use Rattle.md_words.specs.declared.status.Status.{Status}
use Rattle.md_words.specs.declared.status.Status.TheVariants.{InPrep, InProg, Committed, Aborted}
use Rattle.md_words.specs.Status.{status_of, reads_of, serial_of}
use Rattle.md_words.specs.Place.{desc_status}
use Rattle.md_words.specs.Layout.{address, desc_count}
use Rattle.md_words.specs.LayoutLaws.{IsField}
use Rattle.md_words.proofs.Words.{status_of-status_word, serial_of-status_word, reads_of_below}
use Rattle.md_machine.specs.declared.attempt.HistoryEntry.{HistoryEntry}
use Rattle.md_machine.proofs.clauses.entries.EntriesDecided.{status_new, status_other}
use Rattle.md_machine.proofs.clauses.entries.EntriesFit.{status_stays}
use Rattle.md_machine.proofs.clauses.entries.EntriesReady.{ready_present}
use Rattle.md_machine.proofs.events.MoveFacts.{Enters, LeavesFates, MoveFacts}
use Rattle.md_machine.proofs.events.Moves.{WinsFate, own_exists}
use Rattle.md_machine.proofs.lists.Rising.{there}
use Rattle.md_machine.specs.Machine.{Machine, content, shape_of, status_at, word_at}
use Rattle.md_machine.specs.clauses.passes.Hands.{HandsFit}
use Rattle.md_machine.specs.events.Decide.{decided_word}
use Rattle.md_machine.specs.events.Ready.{history_entry, ready_word}

-- an attempt became ready by its status
abbrev pub IsReadyStatus : Status → Type 0
IsReadyStatus s = (s ≡ InProg) ⊎ (s ≡ Committed)

-- the entry of the present attempt of a descriptor, by its status
abbrev pub EntryOf : List HistoryEntry → (desc held : ℕ) → Type 0
EntryOf history desc held = (e : HistoryEntry) × Contains history e × (e.attempt.desc ≡ desc) × (e.attempt.serial ≡ serial_of held)

abbrev pub ReadyHaveEntries : Shape → List ℕ → List HistoryEntry → Type 0
ReadyHaveEntries shape words history = (desc : ℕ) → desc < desc_count shape → IsReadyStatus (status_of (word_at shape words (desc_status desc))) → EntryOf history desc (word_at shape words (desc_status desc))

pub prep_not_ready : (s : Status) → s ≡ InPrep → IsReadyStatus s → ⊥
prep_not_ready s p = ⊎_elim (λ e. no_prog (sym p ∙ e)) (λ e. no_committed (sym p ∙ e))
  where
    no_prog : InPrep ≡ InProg → ⊥
    no_prog e = cc

    no_committed : InPrep ≡ Committed → ⊥
    no_committed e = cc

aborted_not_ready : (s : Status) → s ≡ Aborted → IsReadyStatus s → ⊥
aborted_not_ready s p = ⊎_elim (λ e. no_prog (sym p ∙ e)) (λ e. no_committed (sym p ∙ e))
  where
    no_prog : Aborted ≡ InProg → ⊥
    no_prog e = cc

    no_committed : Aborted ≡ Committed → ⊥
    no_committed e = cc

module _ (m n : Machine) (v : MoveFacts m n) (field : IsField (shape_of m) m.words) (hands : HandsFit (shape_of m) m.words m.passes) (was : ReadyHaveEntries (shape_of m) m.words m.history) where
  -- the words after the change of one status
  status_is : (desc new : ℕ) → v.word ≡ address (shape_of m) (desc_status desc) → v.new ≡ new → n.words ≡ set m.words (address (shape_of m) (desc_status desc)) new
  status_is desc new there is = v.words ∙ ap (λ w. set m.words w v.new) there ∙ ap (set m.words (address (shape_of m) (desc_status desc))) is

  abbrev Has : ℕ → ℕ → Type 0
  Has desc held = IsReadyStatus (status_of held) → EntryOf n.history desc held

  -- another descriptor's status stays, and so does its entry
  from_before : n.history ≡ m.history → (desc held : ℕ) → held ≡ status_at m desc → desc < desc_count (shape_of m) → Has desc held
  from_before same desc held e exists ready = let x = was desc exists (subst (λ h. IsReadyStatus (status_of h)) e ready) in
      (x.0, subst (λ es. Contains es x.0) (sym same) x.1, x.2, x.3 ∙ ap serial_of (sym e))

  quiet_has : LeavesFates m n v.word v.new → (desc : ℕ) → desc < desc_count (shape_of m) → Has desc (word_at (shape_of m) n.words (desc_status desc))
  quiet_has x desc exists = subst (λ ws. Has desc (word_at (shape_of m) ws (desc_status desc))) (sym v.words) (⊎_elim
      (λ same. from_before x.history desc _ same exists)
      (λ again ready. absurd (prep_not_ready _ again.2 ready))
      (status_stays m field v.word v.new x.left hands desc exists))

  enter_has : Enters m n v.p v.word v.new → (desc : ℕ) → desc < desc_count (shape_of m) → Has desc (word_at (shape_of m) n.words (desc_status desc))
  enter_has x desc exists =
      let mine = x.hand.attempt.desc in
      let here = own_exists m v.p mine x.own in
      subst (λ ws. Has desc (word_at (shape_of m) ws (desc_status desc))) (sym (status_is mine _ x.there x.is)) (⊎_elim
      (λ e ready. (
        history_entry m x.hand x.certificates x.count,
        subst (λ es. Contains es (history_entry m x.hand x.certificates x.count)) (sym x.history) (Contains-push m.history _),
        sym e,
        ready_present m field x.hand x.certificates x.count here x.few (ap (content m) (sym x.there) ∙ x.was) ∙ ap (λ d. serial_of (word_at (shape_of m) (set m.words (address (shape_of m) (desc_status mine)) (ready_word x.hand.attempt x.count)) (desc_status d))) (sym e),
      ))
      (λ ne ready.
      let same = status_other (shape_of m) m.words field mine (ready_word x.hand.attempt x.count) here desc exists ne in
      let y = was desc exists (subst (λ h. IsReadyStatus (status_of h)) same ready) in
      (y.0, subst (λ es. Contains es y.0) (sym x.history) (Contains-append_left m.history _ y.0 y.1), y.2, y.3 ∙ ap serial_of (sym same)))
      (cases_eq desc mine))

  decide_has : WinsFate m n v.p v.kind v.word v.new → (desc : ℕ) → desc < desc_count (shape_of m) → Has desc (word_at (shape_of m) n.words (desc_status desc))
  decide_has x desc exists =
      let here : x.desc < desc_count (shape_of m) = ⊎_elim (λ c. c.1.exists) (λ a. a.1.exists) x.may in
      let new = decided_word x.status x.from in
      let stands : status_at m x.desc ≡ x.from = ap (content m) (sym x.there) ∙ x.was in
      subst (λ ws. Has desc (word_at (shape_of m) ws (desc_status desc))) (sym (status_is x.desc new x.there x.is)) (⊎_elim
      (λ e ready.
      let is : word_at (shape_of m) (set m.words (address (shape_of m) (desc_status x.desc)) new) (desc_status desc) ≡ new = ap (λ d. word_at (shape_of m) (set m.words (address (shape_of m) (desc_status x.desc)) new) (desc_status d)) e ∙ status_new (shape_of m) m.words field x.desc new here in
      let told : status_of new ≡ x.status = status_of-status_word x.status (reads_of x.from) (serial_of x.from) in
      ⊎_elim
      (λ c. let y = was x.desc here (subst (λ h. IsReadyStatus (status_of h)) (sym stands) (inl c.1.in_progress)) in
      (y.0, subst (λ es. Contains es y.0) (sym x.history) y.1, y.2 ∙ sym e, y.3 ∙ ap serial_of stands ∙ sym (serial_of-status_word x.status (reads_of x.from) (serial_of x.from) (reads_of_below x.from)) ∙ ap serial_of (sym is)))
      (λ a. absurd (aborted_not_ready _ (ap status_of is ∙ told ∙ a.0) ready))
      x.may)
      (λ ne. from_before x.history desc _ (status_other (shape_of m) m.words field x.desc new here desc exists ne) exists)
      (cases_eq desc x.desc))

  pub ready_entries-kept : ReadyHaveEntries (shape_of m) n.words n.history
  ready_entries-kept desc exists = ⊎_elim (λ x. quiet_has x desc exists) (λ o. ⊎_elim (λ x. enter_has x desc exists) (λ x. decide_has x desc exists) o) v.fates
