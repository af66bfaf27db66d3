-- A step that finds and leaves statuses in preparation or in progress tells no fate.
use Rattle.std.proofs.Common.{◌≡◌, ℕ, List, [], ◌∷◌, refl, sym, ap, ◌∙◌, subst}
use Rattle.std.proofs.lemmas.Bool.{cond_both}
use Rattle.md_words.specs.declared.status.Status.{Status}
use Rattle.md_words.specs.Place.{Place, desc_status}
use Rattle.md_words.specs.Status.{serial_of, status_of}
use Rattle.md_history.specs.declared.entries.Fate.{Fate}
use Rattle.md_machine.specs.declared.attempt.AttemptId.{AttemptId}
use Rattle.md_machine.specs.declared.attempt.HistoryEntry.{HistoryEntry}
use Rattle.md_machine.specs.declared.step.Step.{Step}
use Rattle.md_machine.specs.Machine.{attempt_of, same_attempt}
use Rattle.md_machine.specs.Stepping.{fate_told, known_at, told_by, with_fate}

-- a status that tells no fate
abbrev pub TellsNone : Status → Type 0
TellsNone s = (f : Fate) → fate_told s f ≡ f

with_same : (es : List HistoryEntry) (a : AttemptId) (s : Status) → TellsNone s → (fs : List Fate) → with_fate es a s fs ≡ fs
with_same [] a s none [] = refl
with_same [] a s none (f ∷ fs) = refl
with_same (e ∷ es) a s none [] = refl
with_same (e ∷ es) a s none (f ∷ fs) =
    ap (λ x. x ∷ with_fate es a s fs) (cond_both (same_attempt e.attempt a) (fate_told s f) f (λ x. x ≡ f) (λ _. none f) (λ _. refl))
    ∙ ap (λ l. f ∷ l) (with_same es a s none fs)

told_same : (seen : List HistoryEntry) (desc held : ℕ) (s : Status) → status_of held ≡ s → TellsNone s → (fs : List Fate) → told_by seen desc held fs ≡ fs
told_same seen desc held s is none fs = with_same seen (attempt_of desc (serial_of held)) (status_of held) (subst TellsNone (sym is) none) fs

pub known_same : (seen : List HistoryEntry) (s : Step) (place : Place) (desc : ℕ) (before after : Status) (known : List Fate) → place ≡ desc_status desc
    → status_of s.before ≡ before → TellsNone before → status_of s.after ≡ after → TellsNone after → known_at seen s place known ≡ known
known_same seen s place desc before after known is b tells_b a tells_a =
    ap (λ p. known_at seen s p known) is
    ∙ told_same seen desc s.after after a tells_a (told_by seen desc s.before known)
    ∙ told_same seen desc s.before before b tells_b known
