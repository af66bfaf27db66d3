-- Before its ready step, a word in which an attempt was installed stands for the value that the install found there.
use Rattle.std.proofs.Common.{◌≡◌, ◌||◌, ℕ, Bool, false, List, [], ◌∷◌, refl, sym, ap, ◌∙◌, subst, inl, ⊎_elim}
use Rattle.std.proofs.lemmas.Bool.{cases_Bool, cond-false}
use Rattle.md_words.specs.declared.shape.Shape.{Shape}
use Rattle.md_words.specs.declared.status.Status.TheVariants.{InPrep}
use Rattle.md_words.specs.Content.{count_of, is_even, spot_of, value_of}
use Rattle.md_words.specs.Place.{desc_status, slot_new, slot_old}
use Rattle.md_words.specs.PlaceAt.{IsCounted}
use Rattle.md_words.specs.Status.{serial_of, status_of}
use Rattle.md_history.specs.declared.entries.Fate.{Fate}
use Rattle.md_machine.specs.declared.attempt.AttemptId.{AttemptId}
use Rattle.md_machine.specs.declared.attempt.HistoryEntry.{HistoryEntry}
use Rattle.md_machine.specs.declared.pass.PassView.{PassView}
use Rattle.md_machine.proofs.chain.Values.{installed_spot, unready_kept, value_odd}
use Rattle.md_machine.proofs.events.Attempts.{same_parts}
use Rattle.md_machine.proofs.events.Leaves.{install_odd}
use Rattle.md_machine.specs.Installs.{IsUndecided, spot_of_install}
use Rattle.md_machine.specs.Machine.{IsAt, IsPresentIn, Machine, attempt_of, content, is_ready, present, same_attempt, shape_of, status_at, word_at}
use Rattle.md_machine.specs.Resolution.{is_kept, logical_value, value_under}
use Rattle.md_machine.specs.Theorem.{IsKept}
use Rattle.md_machine.specs.Trail.{EveryStepOf}
use Rattle.md_machine.specs.clauses.entries.Fates.{FatesTold, Tells}
use Rattle.md_machine.specs.events.Install.{MayBeChanged, installed_word}
use Rattle.md_machine.specs.events.Start.{WonInstall}

-- a present attempt in preparation has no entry
pub prep_unready : (shape : Shape) (words : List ℕ) (es : List HistoryEntry) (fs : List Fate) (a : AttemptId) → FatesTold shape words es fs
    → IsPresentIn shape words a
    → status_of (word_at shape words (desc_status a.desc)) ≡ InPrep → is_ready es a ≡ false
prep_unready shape words [] fs a told now prep = refl
prep_unready shape words (e ∷ es) [] a told now prep = absurd told
prep_unready shape words (e ∷ es) (f ∷ fs) a told now prep = ⊎_elim
    (λ same.
    let parts = same_parts e.attempt a same in
    let status : (d : ℕ) → ℕ = λ d. word_at shape words (desc_status d) in
    let present : IsPresentIn shape words e.attempt = parts.1 ∙ now ∙ ap (λ d. serial_of (status d)) (sym parts.0) in
    absurd (subst (λ s. Tells s f) (ap (λ d. status_of (status d)) parts.0 ∙ prep) (told.0.present present)))
    (λ other. ap (λ b. b || is_ready es a) other ∙ prep_unready shape words es fs a told.1 now prep)
    (cases_Bool (same_attempt e.attempt a))

-- so it is of each install that a pass won for an attempt in preparation, in every choice
pub installed_value : (m : Machine) → IsKept m → (pass : ℕ) (p : PassView) → IsAt m pass p → (a : AttemptId) → a ≡ present m a.desc
    → status_of (status_at m a.desc) ≡ InPrep
    → EveryStepOf p (λ s. WonInstall a s → IsCounted (shape_of m) s.word → MayBeChanged s.before → (choice : List Bool)
    → logical_value m choice s.word ≡ value_of s.before)
installed_value m k pass p at a here prep segment inside s c won counted may choice =
    let made = k.won_installs pass p at segment inside s c a won in
    let i = made.0 in let is = made.2 in
    let d = i.attempt.desc in
    let of : (P : AttemptId → Type 0) → P a → P i.attempt = λ P h. subst P (sym is.attempt) h in
    let now : IsPresentIn (shape_of m) m.words i.attempt = of (IsPresentIn (shape_of m) m.words) (ap (λ (b : AttemptId). b.serial) here) in
    let waits : status_of (status_at m d) ≡ InPrep = of (λ (b : AttemptId). status_of (status_at m b.desc) ≡ InPrep) prep in
    let from = subst MayBeChanged (sym is.old) may in
    let slot = k.slots i made.1 now in
    let undecided : IsUndecided (status_at m d) = inl waits in
    let stands : content m s.word ≡ installed_word i.old (spot_of_install i) = ap (content m) (sym is.there) ∙ k.undecided i made.1 now undecided in
    let odd = ap (λ x. is_even (count_of x)) stands ∙ install_odd i.old (spot_of_install i) from in
    let spot = ap (λ x. spot_of (value_of x)) stands ∙ installed_spot i from.room slot.exists.1 in
    let unready : is_ready m.history (present m d) ≡ false = ap (is_ready m.history) (sym (ap (attempt_of d) now)) ∙ prep_unready
    (shape_of m) m.words m.history m.fates i.attempt k.fates.told now waits in
    value_odd m choice s.word counted odd ∙ ap (value_under m choice) spot
    ∙ cond-false (is_kept m.history choice (present m d)) (word_at (shape_of m) m.words (slot_new d i.slot))
    (value_of (word_at (shape_of m) m.words (slot_old d i.slot))) (unready_kept m.history choice (present m d) unready)
    ∙ ap value_of (slot.old ∙ is.old)
