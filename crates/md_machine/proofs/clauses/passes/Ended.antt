-- The committed entries of a lane whose attempts aren't pending, as more is seen, known, begun and answered.
use Rattle.std.proofs.Common.{◌≡◌, ℕ, ◌∷◌, ◌++◌, ◌&&◌, Bool, true, false, cond, eqb, List, [], length, refl, sym, ap, ◌∙◌, subst, ⊎_elim, arith}
use Rattle.std.specs.List.{Contains}
use Rattle.std.specs.Prelude.{not}
use Rattle.std.proofs.lemmas.Bool.{cases_Bool, eqb-true, false≢true, true≢false}
use Rattle.md_history.specs.declared.entries.Entry.{Entry}
use Rattle.md_history.specs.declared.entries.Fate.{Fate}
use Rattle.md_history.specs.declared.entries.Fate.TheVariants.{Committed, Aborted, Undecided}
use Rattle.md_history.specs.Front.{AllStay, Stays}
use Rattle.md_machine.specs.declared.attempt.AttemptId.{AttemptId}
use Rattle.md_machine.specs.declared.attempt.HistoryEntry.{HistoryEntry}
use Rattle.md_machine.proofs.clauses.entries.Past.{decided_stays}
use Rattle.md_machine.proofs.lists.Rising.{here, there}
use Rattle.md_machine.specs.Machine.{was_begun}
use Rattle.md_machine.specs.Resolution.{is_committed}
use Rattle.md_machine.specs.clauses.passes.Mine.{AllEndedDecided, ended_of, is_ended}
use Rattle.md_machine.specs.events.Start.{is_decided}

-- a decided fate that stays is the same
pub settled_fate : (f g : Fate) → Stays f g → is_decided f ≡ true → f ≡ g
settled_fate Committed g s d = sym s
settled_fate Aborted g s d = sym s
settled_fate Undecided g s d = absurd (false≢true d)

-- a list that begins with an element or not
pub cond_cons : (b c : Bool) (x : Entry) (xs ys : List Entry) → b ≡ c → xs ≡ ys → cond b (x ∷ xs) xs ≡ cond c (x ∷ ys) ys
cond_cons b c x xs ys test rest = ap (λ t. cond t (x ∷ xs) xs) test ∙ ap (λ l. cond c (x ∷ l) l) rest

-- the tests of two entries agree where what follows the lane does
lane_test : (lane : ℕ) (e : HistoryEntry) (s t : Bool) → (lane ≡ e.entry.lane → s ≡ t) → (eqb lane e.entry.lane && s) ≡ (eqb lane e.entry.lane && t)
lane_test lane e s t same = ⊎_elim
    (λ yes. ap (λ x. eqb lane e.entry.lane && x) (same (eqb-true lane e.entry.lane yes)))
    (λ no. ap (λ b. b && s) no ∙ sym (ap (λ b. b && t) no))
    (cases_Bool (eqb lane e.entry.lane))

-- with other pending attempts of other lanes the same entries are ended
pub ended_pending : (lane : ℕ) (P Q : List AttemptId) (es : List HistoryEntry) (fs : List Fate)
    → ((e : HistoryEntry) → Contains es e → lane ≡ e.entry.lane → was_begun P e.attempt ≡ was_begun Q e.attempt)
    → ended_of lane P es fs ≡ ended_of lane Q es fs
ended_pending lane P Q [] fs same = refl
ended_pending lane P Q (e ∷ es) [] same = refl
ended_pending lane P Q (e ∷ es) (f ∷ fs) same = cond_cons (is_ended lane P e f) (is_ended lane Q e f) e.entry (ended_of lane P es fs) (ended_of lane Q es fs)
    (lane_test lane e _ _ (λ at. ap (λ w. not w && is_committed f) (same e (here e es) at)))
    (ended_pending lane P Q es fs (λ x c. same x (there e es x c)))

-- where each entry of the lane is pending none is ended
pub ended_none : (lane : ℕ) (P : List AttemptId) (es : List HistoryEntry) (fs : List Fate)
    → ((e : HistoryEntry) → Contains es e → lane ≡ e.entry.lane → was_begun P e.attempt ≡ true) → ended_of lane P es fs ≡ []
ended_none lane P [] fs all = refl
ended_none lane P (e ∷ es) [] all = refl
ended_none lane P (e ∷ es) (f ∷ fs) all = cond_cons (is_ended lane P e f) (eqb lane e.entry.lane && false) e.entry (ended_of lane P es fs) []
    (lane_test lane e _ _ (λ at. ap (λ w. not w && is_committed f) (all e (here e es) at)))
    (ended_none lane P es fs (λ x c. all x (there e es x c)))
    ∙ never (eqb lane e.entry.lane)
  where
    never : (b : Bool) → cond (b && false) (e.entry ∷ []) [] ≡ []
    never true = refl
    never false = refl

-- as more is seen, of other lanes or pending, and more is known, the same entries are ended
pub ended_longer : (lanes : List ℕ) (lane : ℕ) (P : List AttemptId) (es rest : List HistoryEntry) (fs gs : List Fate) → Contains lanes lane
    → length fs ≡ length es → AllStay fs gs → AllEndedDecided lanes P es fs
    → ((x : HistoryEntry) → Contains rest x → lane ≡ x.entry.lane → was_begun P x.attempt ≡ true) → ended_of lane P (es ++ rest) gs ≡ ended_of lane P es fs
ended_longer lanes lane P [] rest [] gs own fated stay decided new = ended_none lane P rest gs new
ended_longer lanes lane P [] rest (f ∷ fs) gs own fated stay decided new = absurd (omega (arith, fated))
ended_longer lanes lane P (e ∷ es) rest [] gs own fated stay decided new = absurd (omega (arith, fated))
ended_longer lanes lane P (e ∷ es) rest (f ∷ fs) [] own fated stay decided new = absurd stay
ended_longer lanes lane P (e ∷ es) rest (f ∷ fs) (g ∷ gs) own fated stay decided new =
    cond_cons (is_ended lane P e g) (is_ended lane P e f) e.entry (ended_of lane P (es ++ rest) gs) (ended_of lane P es fs)
    (lane_test lane e _ _ (λ at. ⊎_elim
    (λ pending. ap (λ w. not w && is_committed g) pending ∙ sym (ap (λ w. not w && is_committed f) pending))
    (λ ended. ap (λ x. not (was_begun P e.attempt) && is_committed x) (sym (settled_fate f g stay.0 (decided.0 (subst (Contains lanes) at own) ended))))
    (cases_Bool (was_begun P e.attempt))))
    (ended_longer lanes lane P es rest fs gs own (omega (arith, fated)) stay.1 decided.1 new)

-- what is new is pending, so it needn't be decided
none_decided : (lanes : List ℕ) (P : List AttemptId) (es : List HistoryEntry) (fs : List Fate)
    → ((x : HistoryEntry) → Contains es x → Contains lanes x.entry.lane → was_begun P x.attempt ≡ true) → AllEndedDecided lanes P es fs
none_decided lanes P [] fs new = tt
none_decided lanes P (e ∷ es) [] new = tt
none_decided lanes P (e ∷ es) (f ∷ fs) new = (
  (λ own ended. absurd (true≢false (sym (new e (here e es) own) ∙ ended))),
  none_decided lanes P es fs (λ x c. new x (there e es x c)),
)

-- what was decided stays so
pub decided_longer : (lanes : List ℕ) (P : List AttemptId) (es rest : List HistoryEntry) (fs gs : List Fate) → length fs ≡ length es → AllStay fs gs
    → AllEndedDecided lanes P es fs
    → ((x : HistoryEntry) → Contains rest x → Contains lanes x.entry.lane → was_begun P x.attempt ≡ true) → AllEndedDecided lanes P (es ++ rest) gs
decided_longer lanes P [] rest [] gs fated stay decided new = none_decided lanes P rest gs new
decided_longer lanes P [] rest (f ∷ fs) gs fated stay decided new = absurd (omega (arith, fated))
decided_longer lanes P (e ∷ es) rest [] gs fated stay decided new = absurd (omega (arith, fated))
decided_longer lanes P (e ∷ es) rest (f ∷ fs) [] fated stay decided new = absurd stay
decided_longer lanes P (e ∷ es) rest (f ∷ fs) (g ∷ gs) fated stay decided new = (
  (λ own ended. decided_stays f g stay.0 (decided.0 own ended)),
  decided_longer lanes P es rest fs gs (omega (arith, fated)) stay.1 decided.1 new,
)

-- with fewer lanes and more pending attempts less is asked
pub decided_fewer : (lanes fewer : List ℕ) (P Q : List AttemptId) (es : List HistoryEntry) (fs : List Fate)
    → ((e : HistoryEntry) → Contains es e → Contains fewer e.entry.lane → was_begun Q e.attempt ≡ false
    → Contains lanes e.entry.lane × (was_begun P e.attempt ≡ false))
    → AllEndedDecided lanes P es fs → AllEndedDecided fewer Q es fs
decided_fewer lanes fewer P Q [] fs less was = tt
decided_fewer lanes fewer P Q (e ∷ es) [] less was = tt
decided_fewer lanes fewer P Q (e ∷ es) (f ∷ fs) less was = (
  (λ own ended. let l = less e (here e es) own ended in was.0 l.0 l.1),
  decided_fewer lanes fewer P Q es fs (λ x c. less x (there e es x c)) was.1,
)
