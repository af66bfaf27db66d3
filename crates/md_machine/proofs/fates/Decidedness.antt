-- What a pass knows to be decided is known to whoever knows more fates.
use Rattle.std.proofs.Common.{◌≤◌, ◌&&◌, true, List, [], ◌∷◌, ◌++◌, length, sym, refl, ◌∙◌, ◌≡◌, subst, ⊎_elim, arith}
use Rattle.std.proofs.lemmas.Bool.{cond_both, or_left, or_right, or_cases, and_parts, and_from, false≢true}
use Rattle.md_words.specs.declared.shape.Shape.{Shape}
use Rattle.md_words.specs.declared.status.Status.{Status}
use Rattle.md_words.specs.declared.status.Status.TheVariants.{InPrep, InProg, Committed as IsCommitted, Aborted as IsAborted}
use Rattle.md_words.specs.Status.{status_of, serial_of}
use Rattle.md_words.specs.Place.{Place, desc_status}
use Rattle.md_words.specs.PlaceAt.{place_at}
use Rattle.md_history.specs.declared.entries.Fate.{Fate}
use Rattle.md_history.specs.declared.entries.Fate.TheVariants.{Committed, Aborted, Undecided}
use Rattle.md_history.specs.Front.{IsPrefix, AllStay, Stays, known_of_two, known_of_both}
use Rattle.md_machine.specs.declared.attempt.AttemptId.{AttemptId}
use Rattle.md_machine.specs.declared.attempt.HistoryEntry.{HistoryEntry}
use Rattle.md_machine.specs.declared.step.Step.{Step}
use Rattle.md_machine.proofs.clauses.entries.Past.{decided_stays}
use Rattle.md_machine.specs.Machine.{attempt_of, same_attempt}
use Rattle.md_machine.specs.Stepping.{fate_told, known_after, known_at, told_by, with_fate}
use Rattle.md_machine.specs.Trail.{is_store}
use Rattle.md_machine.specs.events.Start.{is_decided, knows_decided}

-- where a fate is decided, so is the other list's
abbrev pub MoreDecided : List Fate → List Fate → Type 0
MoreDecided [] gs = Unit {0}
MoreDecided (f ∷ fs) [] = ⊥
MoreDecided (f ∷ fs) (g ∷ gs) = (is_decided f ≡ true → is_decided g ≡ true) × MoreDecided fs gs

pub more_itself : (fs : List Fate) → MoreDecided fs fs
more_itself [] = tt
more_itself (f ∷ fs) = ((λ d. d), more_itself fs)

pub more_on : (fs gs hs : List Fate) → MoreDecided fs gs → MoreDecided gs hs → MoreDecided fs hs
more_on [] gs hs a b = tt
more_on (f ∷ fs) [] hs a b = absurd a
more_on (f ∷ fs) (g ∷ gs) [] a b = absurd b
more_on (f ∷ fs) (g ∷ gs) (h ∷ hs) a b = ((λ d. b.0 (a.0 d)), more_on fs gs hs a.1 b.1)

pub more_stay : (fs gs : List Fate) → AllStay fs gs → MoreDecided fs gs
more_stay [] gs a = tt
more_stay (f ∷ fs) [] a = absurd a
more_stay (f ∷ fs) (g ∷ gs) a = (decided_stays f g a.0, more_stay fs gs a.1)

-- a fate that is decided where another is, both being those of a machine, goes on from it
stays_both : (f g h : Fate) → Stays f h → Stays g h → (is_decided f ≡ true → is_decided g ≡ true) → Stays f g
stays_both Undecided g h a b more = tt
stays_both Committed Committed h a b more = refl
stays_both Committed Aborted h a b more = absurd (let e : Committed ≡ Aborted = sym a ∙ b in cc)
stays_both Committed Undecided h a b more = absurd (false≢true (more refl))
stays_both Aborted Committed h a b more = absurd (let e : Aborted ≡ Committed = sym a ∙ b in cc)
stays_both Aborted Aborted h a b more = refl
stays_both Aborted Undecided h a b more = absurd (false≢true (more refl))

pub all_both : (fs gs hs : List Fate) → AllStay fs hs → AllStay gs hs → MoreDecided fs gs → AllStay fs gs
all_both [] gs hs a b more = tt
all_both (f ∷ fs) [] hs a b more = absurd more
all_both (f ∷ fs) (g ∷ gs) [] a b more = absurd a
all_both (f ∷ fs) (g ∷ gs) (h ∷ hs) a b more = (stays_both f g h a.0 b.0 more.0, all_both fs gs hs a.1 b.1 more.1)

-- a step makes no fate undecided
told_decided : (s : Status) (f : Fate) → is_decided f ≡ true → is_decided (fate_told s f) ≡ true
told_decided InPrep f d = d
told_decided InProg f d = d
told_decided IsCommitted f d = refl
told_decided IsAborted f d = refl

pub more_told : (es : List HistoryEntry) (a : AttemptId) (s : Status) (fs : List Fate) → MoreDecided fs (with_fate es a s fs)
more_told [] a s [] = tt
more_told [] a s (f ∷ fs) = more_itself (f ∷ fs)
more_told (e ∷ es) a s [] = tt
more_told (e ∷ es) a s (f ∷ fs) = (
  cond_both (same_attempt e.attempt a) (fate_told s f) f (λ x. is_decided f ≡ true → is_decided x ≡ true) (λ _. told_decided s f) (λ _ d. d),
  more_told es a s fs,
)

more_at : (seen : List HistoryEntry) (s : Step) (q : Place) (known : List Fate) → MoreDecided known (known_at seen s q known)
more_at seen s (desc_status desc) known =
    let told = told_by seen desc s.before known in
    more_on known told (told_by seen desc s.after told)
    (more_told seen (attempt_of desc (serial_of s.before)) (status_of s.before) known)
    (more_told seen (attempt_of desc (serial_of s.after)) (status_of s.after) told)
more_at seen s _ known = more_itself known

pub more_known : (shape : Shape) (seen : List HistoryEntry) (s : Step) (known : List Fate) → MoreDecided known (known_after shape seen s known)
more_known shape seen s known = cond_both (is_store s.kind) known (known_at seen s (place_at shape s.word) known) (MoreDecided known) (λ _. more_itself known) (λ _. more_at seen s (place_at shape s.word) known)

-- nor does a join
first_of_two : (f g : Fate) → is_decided f ≡ true → is_decided (known_of_two f g) ≡ true
first_of_two Undecided g d = absurd (false≢true d)
first_of_two Committed g d = refl
first_of_two Aborted g d = refl

second_of_two : (f g : Fate) → is_decided g ≡ true → is_decided (known_of_two f g) ≡ true
second_of_two Undecided g d = d
second_of_two Committed g d = refl
second_of_two Aborted g d = refl

pub more_first : (fs gs : List Fate) → MoreDecided fs (known_of_both fs gs)
more_first [] gs = tt
more_first (f ∷ fs) [] = more_itself (f ∷ fs)
more_first (f ∷ fs) (g ∷ gs) = (first_of_two f g, more_first fs gs)

pub more_second : (fs gs : List Fate) → MoreDecided gs (known_of_both fs gs)
more_second [] gs = more_itself gs
more_second (f ∷ fs) [] = tt
more_second (f ∷ fs) (g ∷ gs) = (second_of_two f g, more_second fs gs)

-- what is known of a list is known of a longer one, and back where there are no more fates than entries
knows_longer : (es rest : List HistoryEntry) (fs : List Fate) (a : AttemptId) → knows_decided es fs a ≡ true → knows_decided (es ++ rest) fs a ≡ true
knows_longer [] rest fs a k = absurd (false≢true k)
knows_longer (e ∷ es) rest [] a k = absurd (false≢true k)
knows_longer (e ∷ es) rest (f ∷ fs) a k = ⊎_elim
    (λ this. or_left (same_attempt e.attempt a && is_decided f) (knows_decided (es ++ rest) fs a) this)
    (λ later. or_right (same_attempt e.attempt a && is_decided f) (knows_decided (es ++ rest) fs a) (knows_longer es rest fs a later))
    (or_cases (same_attempt e.attempt a && is_decided f) (knows_decided es fs a) k)

knows_shorter : (es rest : List HistoryEntry) (fs : List Fate) (a : AttemptId) → length fs ≤ length es → knows_decided (es ++ rest) fs a ≡ true → knows_decided es fs a ≡ true
knows_shorter [] [] [] a few k = absurd (false≢true k)
knows_shorter [] (r ∷ rest) [] a few k = absurd (false≢true k)
knows_shorter [] rest (f ∷ fs) a few k = absurd (omega (arith, few))
knows_shorter (e ∷ es) rest [] a few k = absurd (false≢true k)
knows_shorter (e ∷ es) rest (f ∷ fs) a few k = ⊎_elim
    (λ this. or_left (same_attempt e.attempt a && is_decided f) (knows_decided es fs a) this)
    (λ later. or_right (same_attempt e.attempt a && is_decided f) (knows_decided es fs a) (knows_shorter es rest fs a (omega (arith, few)) later))
    (or_cases (same_attempt e.attempt a && is_decided f) (knows_decided (es ++ rest) fs a) k)

knows_more : (es : List HistoryEntry) (fs gs : List Fate) (a : AttemptId) → MoreDecided fs gs → knows_decided es fs a ≡ true → knows_decided es gs a ≡ true
knows_more [] fs gs a m k = absurd (false≢true k)
knows_more (e ∷ es) [] gs a m k = absurd (false≢true k)
knows_more (e ∷ es) (f ∷ fs) [] a m k = absurd m
knows_more (e ∷ es) (f ∷ fs) (g ∷ gs) a m k = ⊎_elim
    (λ this. let both = and_parts (same_attempt e.attempt a) (is_decided f) this in
    or_left (same_attempt e.attempt a && is_decided g) (knows_decided es gs a) (and_from (same_attempt e.attempt a) (is_decided g) both.0 (m.0 both.1)))
    (λ later. or_right (same_attempt e.attempt a && is_decided g) (knows_decided es gs a) (knows_more es fs gs a m.1 later))
    (or_cases (same_attempt e.attempt a && is_decided f) (knows_decided es fs a) k)

-- so of two first parts of one history the one with more fates decided knows what the other knows
pub knows_on : (history seen others : List HistoryEntry) (fs gs : List Fate) (a : AttemptId) → IsPrefix seen history → IsPrefix others history → length gs ≡ length others → MoreDecided fs gs
    → knows_decided seen fs a ≡ true → knows_decided others gs a ≡ true
knows_on history seen others fs gs a p q as_many m k =
    let whole = subst (λ h. knows_decided h fs a ≡ true) (sym p.is) (knows_longer seen p.rest fs a k) in
    knows_shorter others q.rest gs a (omega (arith, as_many)) (subst (λ h. knows_decided h gs a ≡ true) q.is (knows_more history fs gs a m whole))
