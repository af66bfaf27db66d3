-- Entries after an attempt became ready.
use Rattle.std.proofs.Common.{◌≡◌, ℕ, zero, suc, ◌+◌, ◌<◌, ◌≤◌, ◌⊎◌, List, [], ◌∷◌, ◌++◌, map, set, refl, sym, ap, ◌∙◌, subst, inl, inr, ⊎_elim, arith}
use Rattle.std.specs.List.{Contains, range_with_len}
use Rattle.std.proofs.lemmas.Bool.{cases_eq}
use Rattle.std.proofs.lemmas.List.FromFn.{length-map-range_with_len}
use Rattle.std.proofs.lemmas.List.Elements.{Contains-append_left, Contains-push}
use lib.ListN.{get_elem?}
use mathlib.Core.Option.{some, some-injective, some-ne-none}
use Rattle.md_words.specs.declared.limits.TheConstants.{SET}
use Rattle.md_words.specs.declared.status.Status.TheVariants.{InPrep, InProg}
use Rattle.md_words.specs.Status.{status_of, reads_of, serial_of}
use Rattle.md_words.specs.Place.{desc_status, read_word, read_content}
use Rattle.md_words.specs.Layout.{address, desc_count}
use Rattle.md_words.specs.LayoutLaws.{IsField}
use Rattle.md_words.proofs.Words.{status_of-status_word, reads_of-status_word, serial_of-status_word}
use Rattle.md_history.specs.declared.entries.Fate.{Fate}
use Rattle.md_history.specs.declared.entries.Fate.TheVariants.{Undecided}
use Rattle.md_machine.specs.declared.attempt.Hand.{Hand}
use Rattle.md_machine.specs.declared.attempt.HistoryEntry.{HistoryEntry}
use Rattle.md_machine.specs.declared.certificate.Certificate.{Certificate}
use Rattle.md_machine.specs.declared.attempt.Read.{Read}
use Rattle.md_machine.proofs.clauses.entries.EntriesDecided.{entry_other, entry_past, read_content_stays, read_word_stays, status_new, status_other}
use Rattle.md_machine.proofs.clauses.entries.EntriesFit.{EntriesFit, EntryFits, ReadsCounted}
use Rattle.md_machine.proofs.lists.At.{at_below}
use Rattle.md_machine.specs.Machine.{IsPresentIn, Machine, attempt_of, shape_of, status_at, word_at}
use Rattle.md_machine.specs.clauses.entries.Fates.{Tells}
use Rattle.md_machine.specs.events.Ready.{history_entry, read_now, reads_now, ready_word, unready_word}

-- the elements of what a function makes of a range
at_range : {A : Type 0} (f : ℕ → A) (a n i : ℕ) (r : A) → get_elem? (map f (range_with_len a n)) i ≡ some r → f (a + i) ≡ r
at_range f a zero i r e = absurd (some-ne-none r (sym e))
at_range f a (suc n) zero r e = let same : a + 0 ≡ a = omega arith in ap f same ∙ some-injective (f a) r e
at_range f a (suc n) (suc i) r e = let same : a + suc i ≡ a + 1 + i = omega arith in ap f same ∙ at_range f (a + 1) n i r e

-- an attempt becomes ready
module _ (m : Machine) (field : IsField (shape_of m) m.words) (h : Hand) (cs : List Certificate) (count : ℕ) (exists : h.attempt.desc < desc_count (shape_of m)) (few : count ≤ SET)
    (is : status_at m h.attempt.desc ≡ unready_word h.attempt) where
  abbrev ready_now : ℕ
  ready_now = ready_word h.attempt count

  abbrev after_ready : List ℕ
  after_ready = set m.words (address (shape_of m) (desc_status h.attempt.desc)) ready_now

  ready_status : word_at (shape_of m) after_ready (desc_status h.attempt.desc) ≡ ready_now
  ready_status = status_new (shape_of m) m.words field h.attempt.desc ready_now exists

  ready_serial : serial_of ready_now ≡ h.attempt.serial
  ready_serial = serial_of-status_word InProg count h.attempt.serial (omega (arith, few))

  -- the attempt is the present one
  pub ready_present : IsPresentIn (shape_of m) after_ready h.attempt
  ready_present = sym (ap serial_of ready_status ∙ ready_serial)

  was_serial : serial_of (status_at m h.attempt.desc) ≡ h.attempt.serial
  was_serial = ap serial_of is ∙ serial_of-status_word InPrep 0 h.attempt.serial (omega arith)

  entry_before : (e : HistoryEntry) (f : Fate) → EntryFits (shape_of m) m.words e f → EntryFits (shape_of m) after_ready e f
  entry_before e f was = ⊎_elim
      (λ d. entry_past (shape_of m) m.words field h.attempt.desc ready_now exists e f f d
      (λ serial. subst (λ s. Tells s f) (ap (λ x. status_of (word_at (shape_of m) m.words (desc_status x))) d ∙ ap status_of is ∙ status_of-status_word InPrep 0 h.attempt.serial)
      (was.present (serial ∙ ap (λ x. serial_of (word_at (shape_of m) m.words (desc_status x))) (sym d))).fate)
      (ready_serial ∙ sym was_serial) was)
      (λ ne. entry_other (shape_of m) m.words field h.attempt.desc ready_now exists e f ne was)
      (cases_eq e.attempt.desc h.attempt.desc)

  entry_new : EntryFits (shape_of m) after_ready (history_entry m h cs count) Undecided
  entry_new =
      let long = length-map-range_with_len (read_now m h.attempt.desc) 0 count in record {
        exists = exists;
        few = omega (arith, long, few);
        past = let equal = ap serial_of ready_status in let serial = ready_serial in omega (arith, equal, serial);
        present = λ _. record {
          fate = subst (λ s. Tells s Undecided) (sym (ap status_of ready_status ∙ status_of-status_word InProg count h.attempt.serial)) refl;
          count = ap reads_of ready_status ∙ reads_of-status_word InProg count h.attempt.serial (omega (arith, few)) ∙ sym long;
          word = λ i r at. let inside = at_below (reads_now m h.attempt.desc count) i r at in
              read_word_stays (shape_of m) m.words field h.attempt.desc ready_now exists h.attempt.desc i exists (omega (arith, inside, long, few)) ∙ same_word i r (at_range (read_now m h.attempt.desc) 0 count i r at);
          content = λ i r at. let inside = at_below (reads_now m h.attempt.desc count) i r at in
              read_content_stays (shape_of m) m.words field h.attempt.desc ready_now exists h.attempt.desc i exists (omega (arith, inside, long, few)) ∙ same_content i r (at_range (read_now m h.attempt.desc) 0 count i r at);
        };
      }
    where
      zero_more : (i : ℕ) → 0 + i ≡ i
      zero_more i = omega arith

      same_word : (i : ℕ) (r : Read) → read_now m h.attempt.desc (0 + i) ≡ r → word_at (shape_of m) m.words (read_word h.attempt.desc i) ≡ r.word
      same_word i r e = ap (λ j. word_at (shape_of m) m.words (read_word h.attempt.desc j)) (sym (zero_more i)) ∙ ap (λ (x : Read). x.word) e

      same_content : (i : ℕ) (r : Read) → read_now m h.attempt.desc (0 + i) ≡ r → word_at (shape_of m) m.words (read_content h.attempt.desc i) ≡ r.content
      same_content i r e = ap (λ j. word_at (shape_of m) m.words (read_content h.attempt.desc j)) (sym (zero_more i)) ∙ ap (λ (x : Read). x.content) e

  pub entries_ready : (es : List HistoryEntry) (fs : List Fate) → EntriesFit (shape_of m) m.words es fs → EntriesFit (shape_of m) after_ready (es ++ history_entry m h cs count ∷ []) (fs ++ Undecided ∷ [])
  entries_ready [] [] was = (entry_new, tt)
  entries_ready [] (f ∷ fs) was = absurd was
  entries_ready (e ∷ es) [] was = absurd was
  entries_ready (e ∷ es) (f ∷ fs) was = (entry_before e f was.0, entries_ready es fs was.1)

  pub counted_ready : ReadsCounted (shape_of m) m.words m.history → ReadsCounted (shape_of m) after_ready (m.history ++ history_entry m h cs count ∷ [])
  counted_ready was = record {
    counted = λ d there. ⊎_elim
        (λ e. inr (
          history_entry m h cs count,
          Contains-push m.history (history_entry m h cs count),
          ap (attempt_of h.attempt.desc) (sym ready_serial ∙ ap serial_of (sym ready_status)) ∙ ap (λ x. attempt_of x (serial_of (word_at (shape_of m) after_ready (desc_status x)))) (sym e),
        ))
        (λ ne. let same = status_other (shape_of m) m.words field h.attempt.desc ready_now exists d there ne in
        subst (λ x. (reads_of x ≡ 0) ⊎ ((e : HistoryEntry) × Contains (m.history ++ history_entry m h cs count ∷ []) e × (e.attempt ≡ attempt_of d (serial_of x)))) (sym same)
        (⊎_elim inl (λ x. inr (x.0, Contains-append_left m.history (history_entry m h cs count ∷ []) x.0 x.1, x.2)) (was.counted d there)))
        (cases_eq d h.attempt.desc);
  }
