-- The fate of the last entry that a pass has seen, after a step that found or left its attempt decided.
use Rattle.std.proofs.Common.{◌≡◌, ◌⊎◌, ◌<◌, ◌++◌, ◌∷◌, ℕ, suc, true, false, List, [], if◌then◌else◌, length, refl, sym, ap, ◌∙◌, subst, ⊎_elim, arith}
use Rattle.std.proofs.lemmas.Bool.{cond-false, cond-true}
use Rattle.md_words.specs.declared.shape.Shape.{Shape}
use Rattle.md_words.specs.declared.status.Status.{Status}
use Rattle.md_words.specs.declared.status.Status.TheVariants.{Aborted as IsAborted, Committed as IsCommitted}
use Rattle.md_words.specs.Layout.{address, desc_count}
use Rattle.md_words.specs.Place.{Place, desc_status}
use Rattle.md_words.specs.PlaceAt.{place_at}
use Rattle.md_words.specs.Status.{serial_of, status_of}
use Rattle.md_words.proofs.Places.{place_at-address}
use Rattle.md_history.specs.Front.{AllStay, Stays}
use Rattle.md_history.specs.declared.entries.Fate.{Fate}
use Rattle.md_history.specs.declared.entries.Fate.TheVariants.{Aborted, Committed}
use Rattle.md_machine.specs.declared.attempt.AttemptId.{AttemptId}
use Rattle.md_machine.specs.declared.attempt.HistoryEntry.{HistoryEntry}
use Rattle.md_machine.specs.declared.pass.PassView.{PassView}
use Rattle.md_machine.specs.declared.step.Step.{Step}
use Rattle.md_machine.specs.Machine.{attempt_of, same_attempt}
use Rattle.md_machine.specs.Stepping.{fate_told, known_at, told_by, with_fate}
use Rattle.md_machine.specs.Trail.{is_store}
use Rattle.md_machine.proofs.events.Attempts.{same_from}
use Rattle.md_help.specs.After.{IsAfter}
use Rattle.md_nbtc_law.specs.Ending.{LastFate}

-- a decided fate stays the last of as many
pub last_stays : (fates : List Fate) (f : Fate) (now : List Fate) → (f ≡ Committed) ⊎ (f ≡ Aborted) → AllStay (fates ++ f ∷ []) now → length now ≡ length (fates ++ f ∷ []) → LastFate now f
last_stays [] f [] decided stay many = absurd stay
last_stays [] f (g ∷ []) decided stay many = (
  [],
  ap (λ x. x ∷ []) (⊎_elim
      (λ (c : f ≡ Committed). subst (λ x. Stays x g) c stay.0 ∙ sym c)
      (λ (a : f ≡ Aborted). subst (λ x. Stays x g) a stay.0 ∙ sym a)
      decided),
)
last_stays [] f (g ∷ h ∷ gs) decided stay many = absurd (omega (arith, many))
last_stays (x ∷ fates) f [] decided stay many = absurd stay
last_stays (x ∷ fates) f (g ∷ gs) decided stay many =
    let rest = last_stays fates f gs decided stay.1 (omega (arith, many)) in (g ∷ rest.0, ap (λ l. g ∷ l) rest.1)

-- as many fates as entries, of which there is a last one
fates_part : (es : List HistoryEntry) (e : HistoryEntry) (fs : List Fate) → length fs ≡ length (es ++ e ∷ []) → (gs : List Fate) × (g : Fate) × (fs ≡ gs ++ g ∷ []) × (length gs ≡ length es)
fates_part [] e [] many = absurd (omega (arith, many))
fates_part [] e (f ∷ []) many = ([], f, refl, refl)
fates_part [] e (f ∷ g ∷ fs) many = absurd (omega (arith, many))
fates_part (x ∷ es) e [] many = absurd (omega (arith, many))
fates_part (x ∷ es) e (f ∷ fs) many =
    let rest = fates_part es e fs (omega (arith, many)) in (f ∷ rest.0, rest.1, ap (λ l. f ∷ l) rest.2, omega (arith, rest.3))

-- a fate that is told of the last entry's attempt is its own
last_told : (es : List HistoryEntry) (e : HistoryEntry) (a : AttemptId) (s : Status) (fs : List Fate) (f : Fate) → length fs ≡ length es → same_attempt e.attempt a ≡ true
    → with_fate (es ++ e ∷ []) a s (fs ++ f ∷ []) ≡ with_fate es a s fs ++ fate_told s f ∷ []
last_told [] e a s [] f many same = ap (λ x. x ∷ []) (cond-true (same_attempt e.attempt a) (fate_told s f) f same)
last_told [] e a s (g ∷ fs) f many same = absurd (omega (arith, many))
last_told (x ∷ es) e a s [] f many same = absurd (omega (arith, many))
last_told (x ∷ es) e a s (g ∷ fs) f many same =
    ap (λ l. (if same_attempt x.attempt a then fate_told s g else g) ∷ l) (last_told es e a s fs f (omega (arith, many)) same)

with_fate-length : (es : List HistoryEntry) (a : AttemptId) (s : Status) (fs : List Fate) → length (with_fate es a s fs) ≡ length fs
with_fate-length [] a s [] = refl
with_fate-length [] a s (f ∷ fs) = refl
with_fate-length (e ∷ es) a s [] = refl
with_fate-length (e ∷ es) a s (f ∷ fs) = ap (λ n. suc n) (with_fate-length es a s fs)

-- the status tells this fate, whatever was known
abbrev pub TellsFate : Status → Fate → Type 0
TellsFate s f = (g : Fate) → fate_told s g ≡ f

pub tells_committed : TellsFate IsCommitted Committed
tells_committed g = refl

pub tells_aborted : TellsFate IsAborted Aborted
tells_aborted g = refl

told_last : (es : List HistoryEntry) (e : HistoryEntry) (desc held : ℕ) (s : Status) (f : Fate) (known : List Fate) → e.attempt ≡ attempt_of desc (serial_of held) → status_of held ≡ s → TellsFate s f
    → length known ≡ length (es ++ e ∷ []) → LastFate (told_by (es ++ e ∷ []) desc held known) f
told_last es e desc held s f known of is tells many =
    let part = fates_part es e known many in
    let a = attempt_of desc (serial_of held) in
    let same = same_from e.attempt a (ap (λ (x : AttemptId). x.desc) of) (ap (λ (x : AttemptId). x.serial) of) in (
      with_fate es a (status_of held) part.0,
      ap (with_fate (es ++ e ∷ []) a (status_of held)) part.2 ∙ last_told es e a (status_of held) part.0 part.1 part.3 same
          ∙ ap (λ x. with_fate es a (status_of held) part.0 ++ x ∷ []) (ap (λ x. fate_told x part.1) is ∙ tells part.1),
    )

-- so a pass knows the fate of its last entry after a step that left the attempt's status so
pub known_last : (shape : Shape) (desc : ℕ) (step : Step) (p q : PassView) (es : List HistoryEntry) (e : HistoryEntry) (s : Status) (f : Fate) → desc < desc_count shape
    → IsAfter shape (step ∷ []) p q → is_store step.kind ≡ false → step.word ≡ address shape (desc_status desc) → p.seen ≡ es ++ e ∷ [] → length p.known ≡ length p.seen
    → e.attempt ≡ attempt_of desc (serial_of step.after) → status_of step.after ≡ s → TellsFate s f → LastFate q.known f
known_last shape desc step p q es e s f exists goes none there seen many of is tells =
    let place : place_at shape step.word ≡ desc_status desc = ap (place_at shape) there ∙ place_at-address shape (desc_status desc) exists in
    let before = told_by p.seen desc step.before p.known in
    let same : q.known ≡ told_by (es ++ e ∷ []) desc step.after before =
    ap (λ (x : PassView). x.known) goes.1 ∙ cond-false (is_store step.kind) p.known (known_at p.seen step (place_at shape step.word) p.known) none
    ∙ ap (λ (x : Place). known_at p.seen step x p.known) place ∙ ap (λ l. told_by l desc step.after before) seen in
    let last = told_last es e desc step.after s f before of is tells
    (with_fate-length p.seen (attempt_of desc (serial_of step.before)) (status_of step.before) p.known ∙ many ∙ ap length seen) in
    (last.0, same ∙ last.1)
