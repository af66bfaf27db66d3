-- What was answered of lanes, as a pass is split in two or two are joined.
use Rattle.std.proofs.Common.{◌≡◌, ℕ, ◌⊎◌, ◌∷◌, ◌++◌, ◌||◌, true, false, cond, eqb, List, [], suc, refl, sym, ap, ◌∙◌, subst, ⊎_elim, append_assoc, arith}
use Rattle.std.specs.List.{Contains, filter}
use Rattle.std.proofs.lemmas.Bool.{cases_Bool, eqb-true, true≢false}
use Rattle.std.proofs.lemmas.List.Elements.{Contains-append_left}
use Rattle.md_history.specs.declared.entries.Entry.{Entry}
use Rattle.md_history.specs.declared.entries.Fate.{Fate}
use Rattle.md_history.specs.Front.{is_lane_of, of_lane}
use Rattle.md_history.specs.FrontLaws.{lane_is_of, lane_passes}
use Rattle.md_machine.specs.declared.attempt.AttemptId.{AttemptId}
use Rattle.md_machine.specs.declared.attempt.HistoryEntry.{HistoryEntry}
use Rattle.md_machine.proofs.clauses.passes.Ended.{cond_cons}
use Rattle.md_machine.proofs.lists.Splits.{splits}
use Rattle.md_machine.proofs.events.Attempts.{ready_in}
use Rattle.md_machine.specs.Machine.{same_attempt, was_begun}
use Rattle.md_machine.specs.clauses.passes.Mine.{AllEndedDecided}
use Rattle.md_machine.specs.clauses.entries.Numbered.{AreOfDistinctAttempts}

-- a part has what was answered of its lanes
pub part_mine : (lanes : List ℕ) (lane : ℕ) → Contains lanes lane → (xs : List Entry)
    → of_lane lane (filter (λ e. is_lane_of lanes e.lane) xs) ≡ of_lane lane xs
part_mine lanes lane c [] = refl
part_mine lanes lane c (x ∷ xs) =
    let F = filter (λ (e : Entry). is_lane_of lanes e.lane) xs in
    ⊎_elim
    (λ yes. ap (λ b. of_lane lane (cond b (x ∷ F) F)) yes
    ∙ cond_cons (eqb lane x.lane) (eqb lane x.lane) x (of_lane lane F) (of_lane lane xs) refl (part_mine lanes lane c xs))
    (λ no. ap (λ b. of_lane lane (cond b (x ∷ F) F)) no ∙ part_mine lanes lane c xs ∙ sym (ap (λ b. cond b (x ∷ of_lane lane xs) (of_lane lane xs)) (other no)))
    (cases_Bool (is_lane_of lanes x.lane))
  where
    other : is_lane_of lanes x.lane ≡ false → eqb lane x.lane ≡ false
    other outside = ⊎_elim (λ same. absurd
        (true≢false (sym (lane_passes lanes x.lane (subst (Contains lanes) (eqb-true lane x.lane same) c)) ∙ outside))) (λ ne. ne)
        (cases_Bool (eqb lane x.lane))

-- and nothing of others
pub part_outside : (lanes : List ℕ) (lane : ℕ) → (Contains lanes lane → ⊥) → (xs : List Entry) → of_lane lane (filter (λ e. is_lane_of lanes e.lane) xs) ≡ []
part_outside lanes lane out [] = refl
part_outside lanes lane out (x ∷ xs) =
    let F = filter (λ (e : Entry). is_lane_of lanes e.lane) xs in
    ⊎_elim
    (λ yes. ap (λ b. of_lane lane (cond b (x ∷ F) F)) yes ∙ ap (λ b. cond b (x ∷ of_lane lane F) (of_lane lane F)) (other yes) ∙ part_outside lanes lane out xs)
    (λ no. ap (λ b. of_lane lane (cond b (x ∷ F) F)) no ∙ part_outside lanes lane out xs)
    (cases_Bool (is_lane_of lanes x.lane))
  where
    other : is_lane_of lanes x.lane ≡ true → eqb lane x.lane ≡ false
    other inside = ⊎_elim (λ same. absurd (out (subst (Contains lanes) (sym (eqb-true lane x.lane same)) (lane_is_of lanes x.lane inside)))) (λ ne. ne)
        (cases_Bool (eqb lane x.lane))

-- an attempt is among two lists where it is among either
pub begun_first : (P Q : List AttemptId) (a : AttemptId) → was_begun Q a ≡ false → was_begun (P ++ Q) a ≡ was_begun P a
begun_first [] Q a none = none
begun_first (b ∷ P) Q a none = ap (λ t. same_attempt b a || t) (begun_first P Q a none)

pub begun_second : (P Q : List AttemptId) (a : AttemptId) → was_begun P a ≡ false → was_begun (P ++ Q) a ≡ was_begun Q a
begun_second [] Q a none = refl
begun_second (b ∷ P) Q a none = ⊎_elim
    (λ yes. absurd (true≢false (sym (ap (λ t. t || was_begun P a) yes) ∙ none)))
    (λ no. ap (λ t. t || was_begun (P ++ Q) a) no ∙ begun_second P Q a (ap (λ t. t || was_begun P a) (sym no) ∙ none))
    (cases_Bool (same_attempt b a))

pub begun_in : (P : List AttemptId) (a : AttemptId) → was_begun P a ≡ true → (b : AttemptId) × Contains P b × (same_attempt b a ≡ true)
begun_in [] a h = absurd (true≢false (sym h))
begun_in (b ∷ P) a h = ⊎_elim
    (λ yes. (b, (0, omega arith, refl), yes))
    (λ no. let r = begun_in P a (ap (λ t. t || was_begun P a) (sym no) ∙ h) in (r.0, shift r.1, r.2))
    (cases_Bool (same_attempt b a))
  where
    shift : {c : AttemptId} → Contains P c → Contains (b ∷ P) c
    shift (k, below, is) = (suc k, omega (arith, below), is)

-- what is decided of the lanes of two passes is decided of those of both
pub decided_both : (lanes others both : List ℕ) (P : List AttemptId) (es : List HistoryEntry) (fs : List Fate)
    → ((lane : ℕ) → Contains both lane → Contains lanes lane ⊎ Contains others lane)
    → AllEndedDecided lanes P es fs → AllEndedDecided others P es fs → AllEndedDecided both P es fs
decided_both lanes others both P [] fs either_one a b = tt
decided_both lanes others both P (e ∷ es) [] either_one a b = tt
decided_both lanes others both P (e ∷ es) (f ∷ fs) either_one a b = (
  (λ own ended. ⊎_elim (λ l. a.0 l ended) (λ l. b.0 l ended) (either_one e.entry.lane own)),
  decided_both lanes others both P es fs either_one a.1 b.1,
)

-- what is in a first part of the history isn't in the rest
pub not_again : (history seen rest : List HistoryEntry) (x : HistoryEntry) → AreOfDistinctAttempts history → history ≡ seen ++ rest
    → Contains seen x → Contains rest x → ⊥
not_again history seen rest x distinct is c later =
    let r = splits rest x later in
    true≢false (sym (ready_in (seen ++ r.0) x x.attempt (Contains-append_left seen r.0 x c) refl refl)
    ∙ distinct (seen ++ r.0) r.1 x (is ∙ ap (λ l. seen ++ l) r.2 ∙ sym (append_assoc seen r.0 (x ∷ r.1))))
