-- Entries after a status was decided, and after one became ready.
use Rattle.std.proofs.Common.{◌≡◌, ◌≢◌, ℕ, ◌<◌, ◌≤◌, ◌⊎◌, cond, List, [], ◌∷◌, ◌++◌, length, set, refl, sym, ap, ◌∙◌, subst, inl, inr, ⊎_elim, get_or-set_same, get_or-set_other, arith}
use Rattle.std.specs.List.{Contains}
use Rattle.std.proofs.lemmas.Bool.{cases_eq, cases_Bool, cond-true, cond-false, both_ways}
use Rattle.md_words.specs.declared.shape.Shape.{Shape}
use Rattle.md_words.specs.declared.limits.TheConstants.{SET}
use Rattle.md_words.specs.declared.status.Status.{Status}
use Rattle.md_words.specs.declared.status.Status.TheVariants.{InPrep, InProg, Committed as IsCommitted, Aborted as IsAborted}
use Rattle.md_words.specs.Status.{status_of, reads_of, serial_of}
use Rattle.md_words.specs.Place.{Place, desc_status, read_word, read_content}
use Rattle.md_words.specs.Layout.{address, desc_count, Exists}
use Rattle.md_words.specs.LayoutLaws.{IsField}
use Rattle.md_words.proofs.Places.{address_differs, address_below}
use Rattle.md_words.proofs.Words.{status_of-status_word, reads_of-status_word, serial_of-status_word, reads_of_below}
use Rattle.md_history.specs.declared.entries.Fate.{Fate}
use Rattle.md_history.specs.declared.entries.Fate.TheVariants.{Committed, Aborted, Undecided}
use Rattle.md_history.specs.Front.{Stays, AllStay}
use Rattle.md_machine.specs.declared.attempt.AttemptId.{AttemptId}
use Rattle.md_machine.specs.declared.attempt.HistoryEntry.{HistoryEntry}
use Rattle.md_machine.proofs.clauses.entries.EntriesFit.{EntriesFit, EntryFits, PresentFits, ReadsCounted}
use Rattle.md_machine.proofs.events.Attempts.{same_from, same_parts}
use Rattle.md_machine.proofs.lists.At.{at_below}
use Rattle.md_machine.proofs.lists.Rising.{there}
use Rattle.md_machine.specs.Machine.{attempt_of, same_attempt, word_at}
use Rattle.md_machine.specs.Stepping.{fate_told, with_fate}
use Rattle.md_machine.specs.clauses.entries.Fates.{Tells}
use Rattle.md_machine.specs.events.Decide.{decided_word}
use Rattle.md_machine.specs.events.Uninstall.{IsDecided}

module _ (shape : Shape) (words : List ℕ) (field : IsField shape words) (desc new : ℕ) (exists : desc < desc_count shape) where
  abbrev old : ℕ
  old = word_at shape words (desc_status desc)

  abbrev later : List ℕ
  later = set words (address shape (desc_status desc)) new

  -- after a change of a descriptor's status its status is the new one, and what lies elsewhere is as it was
  pub status_new : word_at shape later (desc_status desc) ≡ new
  status_new = let inside = address_below shape (desc_status desc) exists in get_or-set_same words (address shape (desc_status desc)) new 0 (omega (arith, inside, field))

  elsewhere : (q : Place) → Exists shape q → q ≢ desc_status desc → word_at shape later q ≡ word_at shape words q
  elsewhere q there apart = get_or-set_other words (address shape (desc_status desc)) (address shape q) new 0 (address_differs shape q (desc_status desc) there exists apart)

  pub read_word_stays : (d i : ℕ) → d < desc_count shape → i < SET → word_at shape later (read_word d i) ≡ word_at shape words (read_word d i)
  read_word_stays d i there small = elsewhere (read_word d i) (there, small) (λ e. cc)

  pub read_content_stays : (d i : ℕ) → d < desc_count shape → i < SET → word_at shape later (read_content d i) ≡ word_at shape words (read_content d i)
  read_content_stays d i there small = elsewhere (read_content d i) (there, small) (λ e. cc)

  pub status_other : (d : ℕ) → d < desc_count shape → d ≢ desc → word_at shape later (desc_status d) ≡ word_at shape words (desc_status d)
  status_other d there ne = elsewhere (desc_status d) there (λ e. ne (same_desc d desc e))
    where
      same_desc : (a b : ℕ) → desc_status a ≡ desc_status b → a ≡ b
      same_desc a b e = cc

  -- the reads of an entry stand where they stood
  present_later : (e : HistoryEntry) (f g : Fate) → e.attempt.desc < desc_count shape → length e.reads ≤ SET → PresentFits shape words e f
      → Tells (status_of (word_at shape later (desc_status e.attempt.desc))) g → reads_of (word_at shape later (desc_status e.attempt.desc)) ≡ length e.reads → PresentFits shape later e g
  present_later e f g there few was fate count = record {
    fate = fate;
    count = count;
    word = λ i r at. let inside = at_below e.reads i r at in read_word_stays e.attempt.desc i there (omega (arith, inside, few)) ∙ was.word i r at;
    content = λ i r at. let inside = at_below e.reads i r at in read_content_stays e.attempt.desc i there (omega (arith, inside, few)) ∙ was.content i r at;
  }

  -- an entry of another descriptor fits as it did
  pub entry_other : (e : HistoryEntry) (f : Fate) → e.attempt.desc ≢ desc → EntryFits shape words e f → EntryFits shape later e f
  entry_other e f ne was =
      let same = status_other e.attempt.desc was.exists ne in record {
        exists = was.exists;
        few = was.few;
        past = let before = was.past in let equal = ap serial_of same in omega (arith, before, equal);
        present = λ now. let p = was.present (now ∙ ap serial_of same) in
            present_later e f f was.exists was.few p (subst (λ s. Tells (status_of s) f) (sym same) p.fate) (ap reads_of same ∙ p.count);
      }

  -- an entry of an earlier attempt of the descriptor, where the serial stays
  pub entry_past : (e : HistoryEntry) (f g : Fate) → e.attempt.desc ≡ desc → e.attempt.serial ≢ serial_of old → serial_of new ≡ serial_of old → EntryFits shape words e f → EntryFits shape later e g
  entry_past e f g is ne same was =
      let now : serial_of (word_at shape later (desc_status e.attempt.desc)) ≡ serial_of old = ap (λ d. serial_of (word_at shape later (desc_status d))) is ∙ ap serial_of status_new ∙ same in
      let before = was.past in
      let there = ap (λ d. serial_of (word_at shape words (desc_status d))) is in record {
        exists = was.exists;
        few = was.few;
        past = omega (arith, before, there, now);
        present = λ e'. absurd (ne (e' ∙ now));
      }

fate_told_is : (s : Status) (f : Fate) → IsDecided s → Tells s (fate_told s f)
fate_told_is InPrep f d = ⊎_elim (λ e. absurd (prep_not_committed e)) (λ e. absurd (prep_not_aborted e)) d
  where
    prep_not_committed : InPrep ≡ IsCommitted → ⊥
    prep_not_committed e = cc

    prep_not_aborted : InPrep ≡ IsAborted → ⊥
    prep_not_aborted e = cc
fate_told_is InProg f d = ⊎_elim (λ e. absurd (prog_not_committed e)) (λ e. absurd (prog_not_aborted e)) d
  where
    prog_not_committed : InProg ≡ IsCommitted → ⊥
    prog_not_committed e = cc

    prog_not_aborted : InProg ≡ IsAborted → ⊥
    prog_not_aborted e = cc
fate_told_is IsCommitted f d = refl
fate_told_is IsAborted f d = refl

-- an undecided status tells no decided fate
undecided_stays : (s : Status) (f g : Fate) → (s ≡ InPrep) ⊎ (s ≡ InProg) → Tells s f → Stays f g
undecided_stays s f g u t = ⊎_elim (λ e. absurd (subst (λ x. Tells x f) e t)) (λ e. subst (λ x. Stays x g) (sym (subst (λ x. Tells x f) e t)) tt) u

pub stays : (f : Fate) → Stays f f
stays Committed = refl
stays Aborted = refl
stays Undecided = tt

pub all_stay_more : (fs gs : List Fate) → AllStay fs (fs ++ gs)
all_stay_more [] gs = tt
all_stay_more (f ∷ fs) gs = (stays f, all_stay_more fs gs)

-- an undecided status is decided
module _ (shape : Shape) (words : List ℕ) (field : IsField shape words) (desc from : ℕ) (s : Status) (exists : desc < desc_count shape)
    (is : word_at shape words (desc_status desc) ≡ from) (undecided : (status_of from ≡ InPrep) ⊎ (status_of from ≡ InProg)) (decided : IsDecided s) where
  abbrev new : ℕ
  new = decided_word s from

  abbrev after : List ℕ
  after = set words (address shape (desc_status desc)) new

  abbrev a : AttemptId
  a = attempt_of desc (serial_of from)

  new_status : word_at shape after (desc_status desc) ≡ new
  new_status = status_new shape words field desc new exists

  serial_same : serial_of new ≡ serial_of from
  serial_same = serial_of-status_word s (reads_of from) (serial_of from) (reads_of_below from)

  reads_same : reads_of new ≡ reads_of from
  reads_same = reads_of-status_word s (reads_of from) (serial_of from) (reads_of_below from)

  entry_decided : (e : HistoryEntry) (f : Fate) → EntryFits shape words e f → EntryFits shape after e (cond (same_attempt e.attempt a) (fate_told s f) f) × Stays f (cond (same_attempt e.attempt a) (fate_told s f) f)
  entry_decided e f was = ⊎_elim
      (λ yes.
      let parts = same_parts e.attempt a yes in
      let here = ap (λ d. word_at shape words (desc_status d)) parts.0 ∙ is in
      let p = was.present (parts.1 ∙ ap serial_of (sym here)) in
      let now = ap (λ d. word_at shape after (desc_status d)) parts.0 ∙ new_status in
      let told = sym (cond-true (same_attempt e.attempt a) (fate_told s f) f yes) in (
        subst (EntryFits shape after e) told (record {
          exists = was.exists;
          few = was.few;
          past = let equal = ap serial_of now in let serial = parts.1 in let same = serial_same in omega (arith, equal, serial, same);
          present = λ _. present_later shape words field desc new exists e f (fate_told s f) was.exists was.few p
              (subst (λ x. Tells x (fate_told s f)) (sym (ap status_of now ∙ status_of-status_word s (reads_of from) (serial_of from))) (fate_told_is s f decided))
              (ap reads_of now ∙ reads_same ∙ ap reads_of (sym here) ∙ p.count);
        }),
        subst (Stays f) told (undecided_stays (status_of from) f (fate_told s f) undecided (subst (λ x. Tells (status_of x) f) here p.fate)),
      ))
      (λ no.
      let other = sym (cond-false (same_attempt e.attempt a) (fate_told s f) f no) in (
        subst (EntryFits shape after e) other (⊎_elim
            (λ d. entry_past shape words field desc new exists e f f d (λ serial. both_ways _ no (same_from e.attempt a d (serial ∙ ap serial_of is))) (serial_same ∙ ap serial_of (sym is)) was)
            (λ ne. entry_other shape words field desc new exists e f ne was)
            (cases_eq e.attempt.desc desc)),
        subst (Stays f) other (stays f),
      ))
      (cases_Bool (same_attempt e.attempt a))

  pub entries_decided : (es : List HistoryEntry) (fs : List Fate) → EntriesFit shape words es fs → EntriesFit shape after es (with_fate es a s fs) × AllStay fs (with_fate es a s fs)
  entries_decided [] [] was = (tt, tt)
  entries_decided [] (f ∷ fs) was = absurd was
  entries_decided (e ∷ es) [] was = absurd was
  entries_decided (e ∷ es) (f ∷ fs) was = let first = entry_decided e f was.0 in let rest = entries_decided es fs was.1 in ((first.0, rest.0), (first.1, rest.1))

  pub counted_decided : (history : List HistoryEntry) → ReadsCounted shape words history → ReadsCounted shape after history
  counted_decided history was = record {
    counted = λ d there. ⊎_elim
        (λ e. let now = ap (λ x. word_at shape after (desc_status x)) e ∙ new_status in
        ⊎_elim
        (λ none. inl (ap reads_of now ∙ reads_same ∙ ap reads_of (sym is) ∙ ap (λ x. reads_of (word_at shape words (desc_status x))) (sym e) ∙ none))
        (λ x. inr (x.0, x.1, x.2 ∙ ap (attempt_of d) (ap (λ y. serial_of (word_at shape words (desc_status y))) e ∙ ap serial_of is ∙ sym serial_same ∙ ap serial_of (sym now))))
        (was.counted d there))
        (λ ne. let same = status_other shape words field desc new exists d there ne in
        subst (λ x. (reads_of x ≡ 0) ⊎ ((e : HistoryEntry) × Contains history e × (e.attempt ≡ attempt_of d (serial_of x)))) (sym same) (was.counted d there))
        (cases_eq d desc);
  }
