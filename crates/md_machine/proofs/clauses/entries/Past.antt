-- The fate of an entry whose attempt is past is decided.
use Rattle.std.proofs.Common.{◌≡◌, ℕ, ◌&&◌, true, List, [], ◌∷◌, ◌++◌, length, set, refl, sym, ap, ◌∙◌, subst, ⊎_elim, arith}
use Rattle.std.specs.List.{Contains}
use Rattle.std.proofs.lemmas.Bool.{cases_eq, and_parts, or_cases, false≢true}
use Rattle.md_words.specs.declared.shape.Shape.{Shape}
use Rattle.md_words.specs.declared.status.Status.{Status}
use Rattle.md_words.specs.declared.status.Status.TheVariants.{InPrep, InProg, Committed as IsCommitted, Aborted as IsAborted}
use Rattle.md_words.specs.Status.{status_of, serial_of}
use Rattle.md_words.specs.Place.{desc_status}
use Rattle.md_words.specs.LayoutLaws.{IsField}
use Rattle.md_history.specs.declared.entries.Fate.{Fate}
use Rattle.md_history.specs.declared.entries.Fate.TheVariants.{Committed, Aborted, Undecided}
use Rattle.md_history.specs.Front.{Stays, AllStay}
use Rattle.md_machine.specs.declared.attempt.AttemptId.{AttemptId}
use Rattle.md_machine.specs.declared.attempt.HistoryEntry.{HistoryEntry}
use Rattle.md_machine.proofs.clauses.entries.EntriesFit.{EntriesFit, EntryFits}
use Rattle.md_machine.proofs.events.Attempts.{ready_in, same_parts}
use Rattle.md_machine.proofs.events.WordChanges.{MayLeave, Restarts, serial_stays}
use Rattle.md_machine.proofs.lists.Rising.{here, there}
use Rattle.md_machine.specs.Machine.{IsPresentIn, Machine, present, same_attempt, shape_of, status_at, word_at}
use Rattle.md_machine.specs.clauses.entries.Fates.{FatesTold, Tells}
use Rattle.md_machine.specs.clauses.passes.Fronts.{FrontsFit}
use Rattle.md_machine.specs.events.Start.{is_decided, knows_decided}

-- an entry whose attempt isn't the present one is decided
abbrev pub PastDecided : Shape → List ℕ → List HistoryEntry → List Fate → Type 0
PastDecided shape words [] fs = Unit {0}
PastDecided shape words (e ∷ es) [] = Unit {0}
PastDecided shape words (e ∷ es) (f ∷ fs) = (¬ IsPresentIn shape words e.attempt → is_decided f ≡ true) × PastDecided shape words es fs

-- a status that tells one decided fate tells no other
tells_decided : (s : Status) (f g : Fate) → Tells s g → is_decided g ≡ true → Tells s f → is_decided f ≡ true
tells_decided InPrep f g t d u = absurd t
tells_decided InProg f g t d u = absurd (false≢true (subst (λ x. is_decided x ≡ true) t d))
tells_decided IsCommitted f g t d u = ap is_decided u
tells_decided IsAborted f g t d u = ap is_decided u

pub decided_stays : (f g : Fate) → Stays f g → is_decided f ≡ true → is_decided g ≡ true
decided_stays Committed g s d = ap is_decided s
decided_stays Aborted g s d = ap is_decided s
decided_stays Undecided g s d = absurd (false≢true d)

-- what a pass knows to be decided, the present status tells
knows_told : (shape : Shape) (words : List ℕ) (seen rest : List HistoryEntry) (known fates : List Fate) (a : AttemptId) → EntriesFit shape words (seen ++ rest) fates → AllStay known fates
    → IsPresentIn shape words a → knows_decided seen known a ≡ true → (g : Fate) × Tells (status_of (word_at shape words (desc_status a.desc))) g × (is_decided g ≡ true)
knows_told shape words [] rest known fates a fit stay now k = absurd (false≢true k)
knows_told shape words (e ∷ es) rest [] fates a fit stay now k = absurd (false≢true k)
knows_told shape words (e ∷ es) rest (f ∷ fs) [] a fit stay now k = absurd fit
knows_told shape words (e ∷ es) rest (f ∷ fs) (g ∷ gs) a fit stay now k = ⊎_elim
    (λ this. let both = and_parts (same_attempt e.attempt a) (is_decided f) this in
    let same = same_parts e.attempt a both.0 in
    let here = ap (λ d. word_at shape words (desc_status d)) same.0 in
    (g, subst (λ s. Tells (status_of s) g) here (fit.0.present (same.1 ∙ now ∙ ap serial_of (sym here))).fate, decided_stays f g stay.0 both.1))
    (λ later. knows_told shape words es rest fs gs a fit.1 stay.1 now later)
    (or_cases (same_attempt e.attempt a && is_decided f) (knows_decided es fs a) k)

module _ (m : Machine) (field : IsField (shape_of m) m.words) (word new : ℕ) (left : MayLeave (Unit {0}) m word new)
    (fit : EntriesFit (shape_of m) m.words m.history m.fates) (fronts : FrontsFit (shape_of m) m.history m.fates m.passes) where
  abbrev later : List ℕ
  later = set m.words word new

  -- an entry of a present attempt whose descriptor is started again is decided
  restarted : (e : HistoryEntry) (f : Fate) → Contains m.history e → EntryFits (shape_of m) m.words e f → IsPresentIn (shape_of m) m.words e.attempt → Restarts m e.attempt.desc → is_decided f ≡ true
  restarted e f c fits now r =
      let a = present m e.attempt.desc in
      let front = fronts r.pass r.p r.at in
      let told = knows_told (shape_of m) m.words r.p.seen front.seen.rest r.p.known m.fates a (subst (λ h. EntriesFit (shape_of m) m.words h m.fates) front.seen.is fit) front.known refl
      (r.fate (ready_in m.history e a c refl now)) in
      tells_decided (status_of (status_at m e.attempt.desc)) f told.0 told.1 told.2 (fits.present now).fate

  past_one : (e : HistoryEntry) (f : Fate) → Contains m.history e → EntryFits (shape_of m) m.words e f → (¬ IsPresentIn (shape_of m) m.words e.attempt → is_decided f ≡ true)
      → ¬ IsPresentIn (shape_of m) later e.attempt → is_decided f ≡ true
  past_one e f c fits was ne = ⊎_elim
      (λ same. was (λ eq. ne (eq ∙ same)))
      (λ r. ⊎_elim (λ now. restarted e f c fits now r) was (cases_eq e.attempt.serial (serial_of (status_at m e.attempt.desc))))
      (serial_stays (Unit {0}) m field word new left e.attempt.desc fits.exists)

  past_all : (es : List HistoryEntry) (fs : List Fate) → ((e : HistoryEntry) → Contains es e → Contains m.history e) → EntriesFit (shape_of m) m.words es fs → PastDecided (shape_of m) m.words es fs → PastDecided (shape_of m) later es fs
  past_all [] fs sub fits was = tt
  past_all (e ∷ es) [] sub fits was = tt
  past_all (e ∷ es) (f ∷ fs) sub fits was = (past_one e f (sub e (here e es)) fits.0 was.0, past_all es fs (λ x c. sub x (there e es x c)) fits.1 was.1)

  pub past-kept : PastDecided (shape_of m) m.words m.history m.fates → PastDecided (shape_of m) later m.history m.fates
  past-kept was = past_all m.history m.fates (λ e c. c) fit was

-- fates that stay keep it, and an entry of a present attempt may join
pub past_stays : (shape : Shape) (words : List ℕ) (es : List HistoryEntry) (fs gs : List Fate) → AllStay fs gs → length fs ≡ length es → PastDecided shape words es fs → PastDecided shape words es gs
past_stays shape words [] fs gs a l was = tt
past_stays shape words (e ∷ es) [] gs a l was = absurd (zero_suc l)
  where
    zero_suc : 0 ≡ length (e ∷ es) → ⊥
    zero_suc h = omega (arith, h)
past_stays shape words (e ∷ es) (f ∷ fs) [] a l was = absurd a
past_stays shape words (e ∷ es) (f ∷ fs) (g ∷ gs) a l was = ((λ ne. decided_stays f g a.0 (was.0 ne)), past_stays shape words es fs gs a.1 (omega (arith, l)) was.1)

pub past_more : (shape : Shape) (words : List ℕ) (es : List HistoryEntry) (fs : List Fate) (e : HistoryEntry) (f : Fate) → IsPresentIn shape words e.attempt → length fs ≡ length es
    → PastDecided shape words es fs → PastDecided shape words (es ++ e ∷ []) (fs ++ f ∷ [])
past_more shape words [] [] e f now l was = ((λ ne. absurd (ne now)), tt)
past_more shape words [] (x ∷ fs) e f now l was = absurd (omega (arith, l))
past_more shape words (y ∷ es) [] e f now l was = absurd (omega (arith, l))
past_more shape words (y ∷ es) (x ∷ fs) e f now l was = (was.0, past_more shape words es fs e f now (omega (arith, l)) was.1)

-- so each fate is told by the status, or is decided
pub fates_told : (shape : Shape) (words : List ℕ) (es : List HistoryEntry) (fs : List Fate) → EntriesFit shape words es fs → PastDecided shape words es fs → FatesTold shape words es fs
fates_told shape words [] [] fit past = tt
fates_told shape words [] (f ∷ fs) fit past = absurd fit
fates_told shape words (e ∷ es) [] fit past = absurd fit
fates_told shape words (e ∷ es) (f ∷ fs) fit past = (record { present = λ now. (fit.0.present now).fate; past = past.0 }, fates_told shape words es fs fit.1 past.1)
