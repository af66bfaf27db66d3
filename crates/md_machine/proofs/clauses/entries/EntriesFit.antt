-- Entries of the history agree with the statuses and the words of their descriptors.
use Rattle.std.proofs.Common.{◌≡◌, ℕ, ◌<◌, ◌≤◌, ◌⊎◌, List, [], ◌∷◌, length, set, refl, sym, ap, ◌∙◌, subst, inl, inr, ⊎_elim, arith}
use Rattle.std.specs.List.{Contains}
use Rattle.std.proofs.lemmas.Bool.{true≢false}
use lib.ListN.{get_elem?}
use mathlib.Core.Option.{some}
use Rattle.md_words.specs.declared.status.Status.TheVariants.{InPrep}
use Rattle.md_words.specs.declared.shape.Shape.{Shape}
use Rattle.md_words.specs.declared.limits.TheConstants.{SET}
use Rattle.md_words.specs.Status.{status_of, reads_of, serial_of}
use Rattle.md_words.specs.Place.{desc_status, read_word, read_content}
use Rattle.md_words.specs.Layout.{address, desc_count, Exists}
use Rattle.md_words.specs.LayoutLaws.{IsField}
use Rattle.md_history.specs.declared.entries.Fate.{Fate}
use Rattle.md_machine.specs.declared.attempt.HistoryEntry.{HistoryEntry}
use Rattle.md_machine.specs.declared.attempt.Read.{Read}
use Rattle.md_machine.proofs.events.Attempts.{ready_in}
use Rattle.md_machine.proofs.events.WordChanges.{MayLeave, Stores, at_left, at_place}
use Rattle.md_machine.proofs.lists.At.{at_below}
use Rattle.md_machine.proofs.lists.Rising.{here, in_cons, in_none, there}
use Rattle.md_machine.specs.Machine.{IsPresentIn, Machine, attempt_of, content, present, shape_of, status_at, word_at}
use Rattle.md_machine.specs.clauses.entries.Fates.{Tells}
use Rattle.md_machine.specs.clauses.passes.Hands.{HandsFit}

-- the entry of a present attempt: the status tells its fate and counts its reads, which stand in the descriptor
pub record PresentFits (shape : Shape) (words : List ℕ) (e : HistoryEntry) (f : Fate) : Type 0 where
  pub fate : Tells (status_of (word_at shape words (desc_status e.attempt.desc))) f
  pub count : reads_of (word_at shape words (desc_status e.attempt.desc)) ≡ length e.reads
  pub word : (i : ℕ) (r : Read) → get_elem? e.reads i ≡ some r → word_at shape words (read_word e.attempt.desc i) ≡ r.word
  pub content : (i : ℕ) (r : Read) → get_elem? e.reads i ≡ some r → word_at shape words (read_content e.attempt.desc i) ≡ r.content

pub record EntryFits (shape : Shape) (words : List ℕ) (e : HistoryEntry) (f : Fate) : Type 0 where
  pub exists : e.attempt.desc < desc_count shape
  pub few : length e.reads ≤ SET
  pub past : e.attempt.serial ≤ serial_of (word_at shape words (desc_status e.attempt.desc))
  pub present : IsPresentIn shape words e.attempt → PresentFits shape words e f

-- each entry fits its fate, and there are as many
abbrev pub EntriesFit : Shape → List ℕ → List HistoryEntry → List Fate → Type 0
EntriesFit shape words [] [] = Unit {0}
EntriesFit shape words (e ∷ es) (f ∷ fs) = EntryFits shape words e f × EntriesFit shape words es fs
EntriesFit shape words _ _ = ⊥

-- an entry of the history fits its fate
pub entry_fits : (shape : Shape) (words : List ℕ) (es : List HistoryEntry) (fs : List Fate) (e : HistoryEntry) → EntriesFit shape words es fs → Contains es e → (f : Fate) × EntryFits shape words e f
entry_fits shape words [] fs e was c = absurd (in_none e c)
entry_fits shape words (x ∷ xs) [] e was c = absurd was
entry_fits shape words (x ∷ xs) (f ∷ fs) e was c = ⊎_elim (λ same. (f, subst (λ y. EntryFits shape words y f) same was.0)) (entry_fits shape words xs fs e was.1) (in_cons x xs e c)

-- a status that counts reads is that of an entry
pub record ReadsCounted (shape : Shape) (words : List ℕ) (history : List HistoryEntry) : Type 0 where
  pub counted : (desc : ℕ) → desc < desc_count shape → (reads_of (word_at shape words (desc_status desc)) ≡ 0)
      ⊎ ((e : HistoryEntry) × Contains history e × (e.attempt ≡ attempt_of desc (serial_of (word_at shape words (desc_status desc)))))

-- nobody stores into the descriptor of a present attempt that has an entry
pub not_stored : (m : Machine) → HandsFit (shape_of m) m.words m.passes → (e : HistoryEntry) → Contains m.history e → IsPresentIn (shape_of m) m.words e.attempt → Stores m e.attempt.desc → ⊥
not_stored m hands e c present s =
    let fits = hands.fits s.pass s.p s.h s.at s.held in
    true≢false (sym (ready_in m.history e s.h.attempt c (sym s.of) (present ∙ ap (λ d. serial_of (status_at m d)) (sym s.of) ∙ sym fits.present)) ∙ s.unready)

module _ (m : Machine) (field : IsField (shape_of m) m.words) (word new : ℕ) (left : MayLeave ⊥ m word new) (hands : HandsFit (shape_of m) m.words m.passes) where
  abbrev later : List ℕ
  later = set m.words word new

  -- where no attempt goes on, a status stays or is started again
  pub status_stays : (desc : ℕ) → desc < desc_count (shape_of m)
      → (word_at (shape_of m) later (desc_status desc) ≡ status_at m desc) ⊎ ((serial_of (status_at m desc) < serial_of (word_at (shape_of m) later (desc_status desc))) × (reads_of (word_at (shape_of m) later (desc_status desc)) ≡ 0) × (status_of (word_at (shape_of m) later (desc_status desc)) ≡ InPrep))
  status_stays desc exists = at_left ⊥ m field word new (address (shape_of m) (desc_status desc)) (λ x. (x ≡ status_at m desc) ⊎ ((serial_of (status_at m desc) < serial_of x) × (reads_of x ≡ 0) × (status_of x ≡ InPrep))) left
      (λ c e. ⊎_elim (λ r. inr (subst (λ w. serial_of (content m w) < serial_of new) (sym e) r.1, r.2, r.3)) (λ s. absurd s.0) (at_place ⊥ m field word new (desc_status desc) exists c e).on)
      (inl refl)

  entry_quiet : (e : HistoryEntry) (f : Fate) → Contains m.history e → EntryFits (shape_of m) m.words e f → EntryFits (shape_of m) later e f
  entry_quiet e f c was =
      let d = e.attempt.desc in record {
        exists = was.exists;
        few = was.few;
        past = let before = was.past in ⊎_elim (λ same. let equal = ap serial_of same in omega (arith, before, equal)) (λ more. let up = more.0 in omega (arith, before, up)) (status_stays d was.exists);
        present = λ now. ⊎_elim
            (λ same.
            let present = now ∙ ap serial_of same in
            let p = was.present present in record {
              fate = subst (λ s. Tells (status_of s) f) (sym same) p.fate;
              count = ap reads_of same ∙ p.count;
              word = λ i r at. let inside = at_below e.reads i r at in let few = was.few in let exists : Exists (shape_of m) (read_word d i) = (was.exists, omega (arith, inside, few)) in
                  at_left ⊥ m field word new (address (shape_of m) (read_word d i)) (λ x. x ≡ r.word) left (λ ch q. absurd (not_stored m hands e c present (at_place ⊥ m field word new (read_word d i) exists ch q).1)) (p.word i r at);
              content = λ i r at. let inside = at_below e.reads i r at in let few = was.few in let exists : Exists (shape_of m) (read_content d i) = (was.exists, omega (arith, inside, few)) in
                  at_left ⊥ m field word new (address (shape_of m) (read_content d i)) (λ x. x ≡ r.content) left (λ ch q. absurd (not_stored m hands e c present (at_place ⊥ m field word new (read_content d i) exists ch q))) (p.content i r at);
            })
            (λ more. let up = more.0 in let before = was.past in absurd (omega (arith, now, up, before)))
            (status_stays d was.exists);
      }

  pub entries_quiet : (es : List HistoryEntry) (fs : List Fate) → ((e : HistoryEntry) → Contains es e → Contains m.history e) → EntriesFit (shape_of m) m.words es fs → EntriesFit (shape_of m) later es fs
  entries_quiet [] [] sub was = tt
  entries_quiet [] (f ∷ fs) sub was = absurd was
  entries_quiet (e ∷ es) [] sub was = absurd was
  entries_quiet (e ∷ es) (f ∷ fs) sub was = (entry_quiet e f (sub e (here e es)) was.0, entries_quiet es fs (λ x c. sub x (there e es x c)) was.1)

  pub counted_quiet : ReadsCounted (shape_of m) m.words m.history → ReadsCounted (shape_of m) later m.history
  counted_quiet was = record {
    counted = λ desc exists. ⊎_elim
        (λ same. subst (λ s. (reads_of s ≡ 0) ⊎ ((e : HistoryEntry) × Contains m.history e × (e.attempt ≡ attempt_of desc (serial_of s)))) (sym same) (was.counted desc exists))
        (λ more. inl more.1)
        (status_stays desc exists);
  }
