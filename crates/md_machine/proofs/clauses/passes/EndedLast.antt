-- What a pass answers of an attempt comes after all that it answered of the lane.
use Rattle.std.proofs.Common.{◌≡◌, ℕ, ◌≤◌, ◌∷◌, ◌++◌, ◌&&◌, Bool, true, false, cond, eqb, List, [], length, refl, sym, ap, ◌∙◌, ⊎_elim, append-nil, arith}
use Rattle.std.specs.List.{Contains}
use Rattle.std.specs.Prelude.{not}
use Rattle.std.proofs.lemmas.Bool.{cases_Bool, eqb-true}
use Rattle.std.proofs.lemmas.Map.Views.{any-filter_same}
use Rattle.md_words.specs.declared.shape.Shape.{Shape}
use Rattle.md_words.specs.Lanes.{lane_of_desc}
use Rattle.md_history.specs.declared.entries.Entry.{Entry}
use Rattle.md_history.specs.declared.entries.Fate.{Fate}
use Rattle.md_history.specs.Front.{of_lane}
use Rattle.md_machine.specs.declared.attempt.AttemptId.{AttemptId}
use Rattle.md_machine.specs.declared.attempt.HistoryEntry.{HistoryEntry}
use Rattle.md_machine.proofs.clauses.passes.Ended.{cond_cons, ended_none}
use Rattle.md_machine.proofs.events.Attempts.{attempt_same, same_parts}
use Rattle.md_machine.proofs.lists.Rising.{here, there}
use Rattle.md_machine.specs.Machine.{same_attempt, was_begun}
use Rattle.md_machine.specs.Resolution.{is_committed}
use Rattle.md_machine.specs.clauses.passes.HandKnows.{AllDecidedOf}
use Rattle.md_machine.specs.clauses.passes.Mine.{AllEndedDecided, ended_of, is_ended}
use Rattle.md_machine.specs.clauses.entries.Serials.{SerialsRise}
use Rattle.md_machine.specs.events.Mark.{answered, without}

pub same_as : (a b : AttemptId) → same_attempt a b ≡ true → a ≡ b
same_as a b same = let parts = same_parts a b same in attempt_same a b parts.0 parts.1

-- an attempt is among those without another where it is among them and isn't the other
pub without_begun : (P : List AttemptId) (a b : AttemptId) → was_begun (without P a) b ≡ (not (same_attempt b a) && was_begun P b)
without_begun P a b = any-filter_same (λ c. same_attempt c b) (λ c. not (same_attempt c a)) (not (same_attempt b a))
    (λ c same. ap (λ x. not (same_attempt x a)) (same_as c b same)) P

answered_none : (es : List HistoryEntry) (fs : List Fate) (a : AttemptId) → ((x : HistoryEntry) → Contains es x → same_attempt x.attempt a ≡ false)
    → answered es fs a ≡ []
answered_none [] fs a none = refl
answered_none (e ∷ es) [] a none = refl
answered_none (e ∷ es) (f ∷ fs) a none = ap (λ b. cond (b && is_committed f) (e.entry ∷ answered es fs a) (answered es fs a)) (none e (here e es))
    ∙ answered_none es fs a (λ x c. none x (there e es x c))

push_in : (t : Bool) (x : Entry) (xs ys : List Entry) → cond t (x ∷ (xs ++ ys)) (xs ++ ys) ≡ cond t (x ∷ xs) xs ++ ys
push_in true x xs ys = refl
push_in false x xs ys = refl

-- the last entry of a lane
last_of_lane : (b c : Bool) (lane : ℕ) (x : Entry) (xs : List Entry) → eqb lane x.lane ≡ b → (b ≡ true → xs ≡ [])
    → cond (b && c) (x ∷ xs) xs ≡ xs ++ of_lane lane (cond c (x ∷ []) [])
last_of_lane true true lane x xs is none =
    ap (λ l. x ∷ l) (none refl) ∙ ap (λ t. cond t (x ∷ []) []) (sym is) ∙ ap (λ l. l ++ of_lane lane (x ∷ [])) (sym (none refl))
last_of_lane true false lane x xs is none = sym (append-nil xs)
last_of_lane false true lane x xs is none = sym (append-nil xs) ∙ ap (λ t. xs ++ cond t (x ∷ []) []) (sym is)
last_of_lane false false lane x xs is none = sym (append-nil xs)

never : (b : Bool) (x : Entry) (xs : List Entry) → cond (b && false) (x ∷ xs) xs ≡ xs
never true x xs = refl
never false x xs = refl

same_desc : (shape : Shape) (d e : ℕ) → lane_of_desc shape d ≡ lane_of_desc shape e → d ≡ e
unfolding lane_of_desc
same_desc shape d e h = h

-- an entry is of its descriptor's lane, and of no later attempt than this one
pub record IsBy (shape : Shape) (a : AttemptId) (e : HistoryEntry) : Type 0 where
  pub lane : e.entry.lane ≡ lane_of_desc shape e.attempt.desc
  pub past : e.attempt.desc ≡ a.desc → e.attempt.serial ≤ a.serial

abbrev AllBy : Shape → AttemptId → List HistoryEntry → Type 0
AllBy shape a es = (e : HistoryEntry) → Contains es e → IsBy shape a e

-- where the first is of the attempt, no later entry is of its descriptor
alone : (shape : Shape) (a : AttemptId) (e : HistoryEntry) (es : List HistoryEntry) → same_attempt e.attempt a ≡ true → SerialsRise (e ∷ es)
    → AllBy shape a (e ∷ es) → (x : HistoryEntry) → Contains es x → x.attempt.desc ≡ a.desc → ⊥
alone shape a e es same rise by x c d =
    let parts = same_parts e.attempt a same in
    let more = rise.0 x c (d ∙ sym parts.0) in
    let past = (by x (there e es x c)).past d in
    let serial = parts.1 in
    omega (arith, more, past, serial)

module _ (shape : Shape) (a : AttemptId) (P : List AttemptId) (pending : was_begun P a ≡ true) (lane : ℕ) where
  -- the entry is of the attempt
  this_one : (e : HistoryEntry) (es : List HistoryEntry) (f : Fate) (fs : List Fate) → SerialsRise (e ∷ es) → AllBy shape a (e ∷ es)
      → same_attempt e.attempt a ≡ true
      → ended_of lane (without P a) es fs ≡ ended_of lane P es fs ++ of_lane lane (answered es fs a)
      → ended_of lane (without P a) (e ∷ es) (f ∷ fs) ≡ ended_of lane P (e ∷ es) (f ∷ fs) ++ of_lane lane (answered (e ∷ es) (f ∷ fs) a)
  this_one e es f fs rise by same rest =
      let b = eqb lane e.entry.lane in let c = is_committed f in let x = e.entry in
      let R = ended_of lane P es fs in let A = answered es fs a in
      let later = alone shape a e es same rise by in
      let none : A ≡ [] = answered_none es fs a
      (λ y i. ⊎_elim (λ again. absurd (later y i (same_parts y.attempt a again).0)) (λ no. no) (cases_Bool (same_attempt y.attempt a))) in
      let same_rest : ended_of lane (without P a) es fs ≡ R = rest ∙ ap (λ l. R ++ of_lane lane l) none ∙ append-nil R in
      let now : is_ended lane (without P a) e f ≡ (b && c) =
      ap (λ w. b && (not w && c)) (without_begun P a e.attempt ∙ ap (λ t. not t && was_begun P e.attempt) same) in
      let was : is_ended lane P e f ≡ (b && false) = ap (λ w. b && (not w && c)) (ap (was_begun P) (same_as e.attempt a same) ∙ pending) in
      let answers : answered (e ∷ es) (f ∷ fs) a ≡ cond c (x ∷ []) [] = ap (λ t. cond (t && c) (x ∷ A) A) same ∙ ap (λ l. cond c (x ∷ l) l) none in
      let empty : b ≡ true → R ≡ [] = λ at. ended_none lane P es fs (λ y i on. absurd (later y i
      (same_desc shape y.attempt.desc e.attempt.desc
      (sym (by y (there e es y i)).lane ∙ sym on ∙ eqb-true lane x.lane at ∙ (by e (here e es)).lane) ∙ (same_parts e.attempt a same).0))) in
      cond_cons (is_ended lane (without P a) e f) (b && c) x (ended_of lane (without P a) es fs) R now same_rest
      ∙ last_of_lane b c lane x R refl empty
      ∙ ap (λ l. l ++ of_lane lane (cond c (x ∷ []) [])) (sym (ap (λ t. cond t (x ∷ R) R) was ∙ never b x R))
      ∙ ap (λ l. ended_of lane P (e ∷ es) (f ∷ fs) ++ of_lane lane l) (sym answers)

  -- the entry is of another attempt
  other_one : (e : HistoryEntry) (es : List HistoryEntry) (f : Fate) (fs : List Fate) → same_attempt e.attempt a ≡ false
      → ended_of lane (without P a) es fs ≡ ended_of lane P es fs ++ of_lane lane (answered es fs a)
      → ended_of lane (without P a) (e ∷ es) (f ∷ fs) ≡ ended_of lane P (e ∷ es) (f ∷ fs) ++ of_lane lane (answered (e ∷ es) (f ∷ fs) a)
  other_one e es f fs differs rest =
      let b = eqb lane e.entry.lane in let c = is_committed f in let x = e.entry in
      let R = ended_of lane P es fs in let A = answered es fs a in
      let same : is_ended lane (without P a) e f ≡ is_ended lane P e f =
      ap (λ w. b && (not w && c)) (without_begun P a e.attempt ∙ ap (λ t. not t && was_begun P e.attempt) differs) in
      cond_cons (is_ended lane (without P a) e f) (is_ended lane P e f) x (ended_of lane (without P a) es fs) (R ++ of_lane lane A) same rest
      ∙ push_in (is_ended lane P e f) x R (of_lane lane A)
      ∙ ap (λ l. ended_of lane P (e ∷ es) (f ∷ fs) ++ of_lane lane l) (sym (ap (λ t. cond (t && c) (x ∷ A) A) differs))

  pub ended_last : (es : List HistoryEntry) (fs : List Fate) → length fs ≡ length es → SerialsRise es → AllBy shape a es
      → ended_of lane (without P a) es fs ≡ ended_of lane P es fs ++ of_lane lane (answered es fs a)
  ended_last [] fs fated rise by = refl
  ended_last (e ∷ es) [] fated rise by = refl
  ended_last (e ∷ es) (f ∷ fs) fated rise by =
      let rest = ended_last es fs (omega (arith, fated)) rise.1 (λ x c. by x (there e es x c)) in
      ⊎_elim (λ yes. this_one e es f fs rise by yes rest) (λ no. other_one e es f fs no rest) (cases_Bool (same_attempt e.attempt a))

-- an attempt that is known to be decided may be ended
pub decided_without : (lanes : List ℕ) (P : List AttemptId) (a : AttemptId) (es : List HistoryEntry) (fs : List Fate) → AllDecidedOf a es fs
    → AllEndedDecided lanes P es fs → AllEndedDecided lanes (without P a) es fs
decided_without lanes P a [] fs knows was = tt
decided_without lanes P a (e ∷ es) [] knows was = tt
decided_without lanes P a (e ∷ es) (f ∷ fs) knows was = (
  (λ own ended. ⊎_elim
      knows.0
      (λ no. was.0 own (sym (without_begun P a e.attempt ∙ ap (λ t. not t && was_begun P e.attempt) no) ∙ ended))
      (cases_Bool (same_attempt e.attempt a))),
  decided_without lanes P a es fs knows.1 was.1,
)
