-- Attempts that are the same, in hand, begun, or ready.
use Rattle.std.proofs.Common.{◌≡◌, ◌⊎◌, ◌∷◌, ◌++◌, Bool, false, true, List, [], filter, refl, sym, ap, ◌∙◌, inl, inr, ⊎_elim, eq-eqb, Some}
use Rattle.std.specs.Prelude.{Option, None}
use Rattle.std.specs.List.{Contains}
use Rattle.std.proofs.lemmas.Bool.{or_cases, or_left, or_right, and_from, and_parts, cond_both, eqb-true, false≢true, true≢false}
use Rattle.md_machine.specs.declared.attempt.AttemptId.{AttemptId}
use Rattle.md_machine.specs.declared.attempt.Hand.{Hand}
use Rattle.md_machine.specs.declared.attempt.HistoryEntry.{HistoryEntry}
use Rattle.md_machine.proofs.lists.Options.{none_some, some_same}
use Rattle.md_machine.proofs.lists.Rising.{in_cons, in_none}
use Rattle.md_machine.specs.Machine.{attempt_of, is_ready, same_attempt, was_begun}
use Rattle.md_machine.specs.Stepping.{attempt_in_hand}

pub same_from : (a b : AttemptId) → a.desc ≡ b.desc → a.serial ≡ b.serial → same_attempt a b ≡ true
same_from a b d s = and_from _ _ (eq-eqb a.desc b.desc d) (eq-eqb a.serial b.serial s)

pub same_parts : (a b : AttemptId) → same_attempt a b ≡ true → (a.desc ≡ b.desc) × (a.serial ≡ b.serial)
same_parts a b e = let parts = and_parts _ _ e in (eqb-true a.desc b.desc parts.0, eqb-true a.serial b.serial parts.1)

-- an attempt with an entry is ready
pub ready_in : (es : List HistoryEntry) (e : HistoryEntry) (a : AttemptId) → Contains es e → e.attempt.desc ≡ a.desc → e.attempt.serial ≡ a.serial → is_ready es a ≡ true
ready_in [] e a c d s = absurd (in_none e c)
ready_in (x ∷ xs) e a c d s = ⊎_elim
    (λ same. or_left (same_attempt x.attempt a) (is_ready xs a) (same_from x.attempt a (ap (λ (y : HistoryEntry). y.attempt.desc) same ∙ d) (ap (λ (y : HistoryEntry). y.attempt.serial) same ∙ s)))
    (λ later. or_right (same_attempt x.attempt a) (is_ready xs a) (ready_in xs e a later d s))
    (in_cons x xs e c)

pub attempt_same : (a b : AttemptId) → a.desc ≡ b.desc → a.serial ≡ b.serial → a ≡ b
attempt_same a b d s = ap (λ x. attempt_of x a.serial) d ∙ ap (attempt_of b.desc) s

pub in_hand_some : (o : Option Hand) (a : AttemptId) → attempt_in_hand o ≡ Some a → (h : Hand) × (o ≡ Some h) × (h.attempt ≡ a)
in_hand_some None a e = absurd (none_some None a refl e)
in_hand_some (Some h) a e = (h, refl, some_same h.attempt a e)

pub begun_more : (bs cs : List AttemptId) (a : AttemptId) → was_begun bs a ≡ true → was_begun (bs ++ cs) a ≡ true
begun_more [] cs a h = absurd (false≢true h)
begun_more (b ∷ bs) cs a h = ⊎_elim (λ l. or_left (same_attempt b a) (was_begun (bs ++ cs) a) l) (λ r. or_right (same_attempt b a) (was_begun (bs ++ cs) a) (begun_more bs cs a r)) (or_cases (same_attempt b a) (was_begun bs a) h)

pub begun_last : (bs : List AttemptId) (a : AttemptId) → was_begun (bs ++ a ∷ []) a ≡ true
begun_last [] a = or_left (same_attempt a a) false (same_from a a refl refl)
begun_last (b ∷ bs) a = or_right (same_attempt b a) (was_begun (bs ++ a ∷ []) a) (begun_last bs a)

-- an attempt of a list with one more is of the list, or that one
pub begun_cases : (bs : List AttemptId) (x a : AttemptId) → was_begun (bs ++ x ∷ []) a ≡ true
    → (was_begun bs a ≡ true) ⊎ (same_attempt x a ≡ true)
begun_cases [] x a h = ⊎_elim inr (λ none. absurd (false≢true none)) (or_cases (same_attempt x a) false h)
begun_cases (b ∷ bs) x a h = ⊎_elim
    (λ this. inl (or_left (same_attempt b a) (was_begun bs a) this))
    (λ later. ⊎_elim (λ old. inl (or_right (same_attempt b a) (was_begun bs a) old)) inr (begun_cases bs x a later))
    (or_cases (same_attempt b a) (was_begun (bs ++ x ∷ []) a) h)

pub begun_right : (bs cs : List AttemptId) (a : AttemptId) → was_begun cs a ≡ true → was_begun (bs ++ cs) a ≡ true
begun_right [] cs a h = h
begun_right (b ∷ bs) cs a h = or_right (same_attempt b a) (was_begun (bs ++ cs) a) (begun_right bs cs a h)

-- an attempt stays in a list of which it is kept
pub begun_filter : (keep : AttemptId → Bool) (bs : List AttemptId) (a : AttemptId)
    → ((b : AttemptId) → same_attempt b a ≡ true → keep b ≡ true) → was_begun bs a ≡ true → was_begun (filter keep bs) a ≡ true
begun_filter keep [] a kept h = h
begun_filter keep (b ∷ bs) a kept h = cond_both (keep b) (b ∷ filter keep bs) (filter keep bs) (λ l. was_begun l a ≡ true)
    (λ _. ⊎_elim (λ this. or_left (same_attempt b a) (was_begun (filter keep bs) a) this) (λ later. or_right (same_attempt b a) (was_begun (filter keep bs) a) (begun_filter keep bs a kept later))
    (or_cases (same_attempt b a) (was_begun bs a) h))
    (λ left. ⊎_elim (λ this. absurd (true≢false (sym (kept b this) ∙ left))) (λ later. begun_filter keep bs a kept later) (or_cases (same_attempt b a) (was_begun bs a) h))

-- an attempt that is kept of a list is of the list
pub begun_of_filter : (keep : AttemptId → Bool) (bs : List AttemptId) (a : AttemptId) → was_begun (filter keep bs) a ≡ true → was_begun bs a ≡ true
begun_of_filter keep [] a h = h
begun_of_filter keep (b ∷ bs) a h = cond_both (keep b) (b ∷ filter keep bs) (filter keep bs) (λ l. was_begun l a ≡ true → was_begun (b ∷ bs) a ≡ true)
    (λ _ i. ⊎_elim
    (λ this. or_left (same_attempt b a) (was_begun bs a) this)
    (λ later. or_right (same_attempt b a) (was_begun bs a) (begun_of_filter keep bs a later))
    (or_cases (same_attempt b a) (was_begun (filter keep bs) a) i))
    (λ _ i. or_right (same_attempt b a) (was_begun bs a) (begun_of_filter keep bs a i)) h

-- an attempt of two lists is of one of them
pub begun_either : (bs cs : List AttemptId) (a : AttemptId) → was_begun (bs ++ cs) a ≡ true → (was_begun bs a ≡ true) ⊎ (was_begun cs a ≡ true)
begun_either [] cs a h = inr h
begun_either (b ∷ bs) cs a h = ⊎_elim
    (λ this. inl (or_left (same_attempt b a) (was_begun bs a) this))
    (λ later. ⊎_elim (λ old. inl (or_right (same_attempt b a) (was_begun bs a) old)) inr (begun_either bs cs a later))
    (or_cases (same_attempt b a) (was_begun (bs ++ cs) a) h)
