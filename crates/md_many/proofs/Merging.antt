-- Lanes' turns, told by caller: among what the lanes committed, the entries with a caller's tags are its lines.
use Rattle.std.proofs.Common.{◌≡◌, ◌≢◌, ◌+◌, ◌<◌, ◌≤◌, ◌^◌, ℕ, zero, suc, Bool, true, false, Some, None, List, [], ◌∷◌, ◌++◌, length, refl, sym, ap, subst, ◌∙◌, arith, inl, inr}
use Rattle.std.specs.Prelude.{◌==◌, ◌/◌, ◌⊎◌, filter, slice_get, slice_index_or, Contains}
use Rattle.std.specs.List.{AllByRecursion}
use Rattle.std.proofs.lemmas.Bool.{cases_Bool, eq-eqb, eqb-true, ne_eqb, false≢true}
use Rattle.std.proofs.lemmas.List.{append_cancel_left, get_or_past}
use Rattle.std.proofs.lemmas.Option.{slice_get_cases}
use Rattle.md_history.specs.declared.entries.Entry.{Entry}
use Rattle.md_history.specs.Front.{Front, of_lane, is_lane_of}
use Rattle.md_history.specs.FrontLaws.{lane_passes, lane_is_of}
use Rattle.md_history.specs.Engine.{IsRising}
use Rattle.md_history.specs.LaneLaws.{contains-either, contains-first, contains-more}
use Rattle.md_many_attempts.specs.Meaning.{Meaning}
use Rattle.md_many_attempts.specs.Lines.{AreLines}
use Rattle.md_many_attempts.specs.ByCaller.{at_caller}
use Rattle.md_many.specs.Rounds.{TakesTurn, AreTurns, of_caller}
use Rattle.md_many.proofs.TagLaws.{caller_of_tag}

-- a test of entries by a key of theirs: what holds of those with each key holds of all
pub all-of : (same : ℕ → Entry → Bool) (key : Entry → ℕ) → ((e : Entry) → same (key e) e ≡ true)
    → (P : Entry → Type 0) (es : List Entry) → ((k : ℕ) → AllByRecursion P (filter (same k) es)) → AllByRecursion P es
all-of same key own P [] each = tt
all-of same key own P (e ∷ es) each =
    let here : P e × AllByRecursion P (filter (same (key e)) es) = rw (own e) at (each (key e)) in
    (here.0, all-of same key own P es (λ k. later P (same k) e es (each k)))
  where
    later : (P : Entry → Type 0) (p : Entry → Bool) (e : Entry) (es : List Entry) → AllByRecursion P (filter p (e ∷ es))
        → AllByRecursion P (filter p es)
    later P p e es all = elim (cases_Bool (p e)) [
      | inl passes ↦ let both : P e × AllByRecursion P (filter p es) = rw passes at all in both.1
      | inr fails ↦ rw fails at all
    ]

pub all-weaker : (P Q : Entry → Type 0) → ((e : Entry) → P e → Q e) → (es : List Entry) → AllByRecursion P es
    → AllByRecursion Q es
all-weaker P Q weaker [] all = tt
all-weaker P Q weaker (e ∷ es) all = (weaker e all.0, all-weaker P Q weaker es all.1)

all-both : (P Q : Entry → Type 0) (es : List Entry) → AllByRecursion P es → AllByRecursion Q es
    → AllByRecursion (λ e. P e × Q e) es
all-both P Q [] p q = tt
all-both P Q (e ∷ es) p q = ((p.0, q.0), all-both P Q es p.1 q.1)

-- what passes a test passes it
pub all-pass : (p : Entry → Bool) (es : List Entry) → AllByRecursion (λ e. p e ≡ true) (filter p es)
all-pass p [] = tt
all-pass p (e ∷ es) = elim (cases_Bool (p e)) [
  | inl passes ↦ rw passes (passes, all-pass p es)
  | inr fails ↦ rw fails (all-pass p es)
]

-- two tests that agree on a list
filter-agree : (p q : Entry → Bool) (es : List Entry) → AllByRecursion (λ e. p e ≡ q e) es → filter p es ≡ filter q es
filter-agree p q [] agree = refl
filter-agree p q (e ∷ es) agree = elim (cases_Bool (q e)) [
  | inl passes ↦ rw (agree.0, passes) (ap (λ xs. e ∷ xs) (filter-agree p q es agree.1))
  | inr fails ↦ rw (agree.0, fails) (filter-agree p q es agree.1)
]

pub filter-none : (p : Entry → Bool) (es : List Entry) → AllByRecursion (λ e. p e ≡ false) es → filter p es ≡ []
filter-none p [] none = refl
filter-none p (e ∷ es) none = rw none.0 (filter-none p es none.1)

pub filter-all : (p : Entry → Bool) (es : List Entry) → AllByRecursion (λ e. p e ≡ true) es → filter p es ≡ es
filter-all p [] all = refl
filter-all p (e ∷ es) all = rw all.0 (ap (λ xs. e ∷ xs) (filter-all p es all.1))

-- where an element stands
contains-at : {A : Type 0} (xs : List A) (x : A) → Contains xs x → (i : ℕ) × (slice_get xs i ≡ Some x)
contains-at [] x at = let below = at.1 in absurd (omega arith)
contains-at (y ∷ xs) x at = elim (contains-either y xs x at) [
  | inl here ↦ (0, ap Some here)
  | inr there ↦ let later = contains-at xs x there in (suc later.0, later.1)
]

at-contains : {A : Type 0} (xs : List A) (i : ℕ) (x : A) → slice_get xs i ≡ Some x → Contains xs x
at-contains [] i x at = cc
at-contains (y ∷ xs) zero x at = let same : y ≡ x = cc in subst (Contains (y ∷ xs)) same (contains-first y xs)
at-contains (y ∷ xs) (suc i) x at = contains-more y xs x (at-contains xs i x at)

above-first : (x : ℕ) (xs : List ℕ) (j z : ℕ) → IsRising (x ∷ xs) → slice_get xs j ≡ Some z → x < z
above-first x [] j z rising at = cc
above-first x (y ∷ xs) zero z rising at = let same : y ≡ z = cc in omega (arith, rising.0)
above-first x (y ∷ xs) (suc j) z rising at = omega (arith, rising.0, above-first y xs j z rising.1 at)

rising-rest : (x : ℕ) (xs : List ℕ) → IsRising (x ∷ xs) → IsRising xs
rising-rest x [] h = tt
rising-rest x (y ∷ xs) h = h.1

-- a number stands at one place of a rising list
one-place : (xs : List ℕ) (i j z : ℕ) → IsRising xs → slice_get xs i ≡ Some z → slice_get xs j ≡ Some z → i ≡ j
one-place [] i j z rising at at' = cc
one-place (x ∷ xs) zero zero z rising at at' = refl
one-place (x ∷ xs) zero (suc j) z rising at at' =
    let same : x ≡ z = cc in let less = above-first x xs j z rising at' in absurd (omega arith)
one-place (x ∷ xs) (suc i) zero z rising at at' =
    let same : x ≡ z = cc in let less = above-first x xs i z rising at in absurd (omega arith)
one-place (x ∷ xs) (suc i) (suc j) z rising at at' = ap suc (one-place xs i j z (rising-rest x xs rising) at at')

module _ {B R : Type 0} (m : Meaning B R) where
  -- lines are of their caller
  pub lines-caller : (caller : ℕ) (es : List Entry) (rs : List R) (n : ℕ) → AreLines m caller es rs n
      → n + length rs < 2 ^ 32 → AllByRecursion (λ (e : Entry). e.tag / 2 ^ 32 ≡ caller) es
  lines-caller caller [] [] n lines few = tt
  lines-caller caller (e ∷ es) (r ∷ rs) n lines few = (
    ap (λ t. t / 2 ^ 32) lines.0.tagged ∙ caller_of_tag caller (n + 1) (omega arith),
    lines-caller caller es rs (n + 1) lines.1 (omega arith),
  )
  lines-caller caller [] (r ∷ rs) n lines few = absurd lines
  lines-caller caller (e ∷ es) [] n lines few = absurd lines

module _ {B R : Type 0} (m : Meaning B R) (told : ℕ → ℕ → Type 0)
    (f g : Front) where
  -- the turn on a lane
  turn-at : (before : ℕ) (done lanes : List ℕ) (rs : List (List R)) → AreTurns m told f g before done lanes rs
      → (i lane : ℕ) → slice_get lanes i ≡ Some lane
      → TakesTurn m told (before + 1 + i) (slice_index_or done i 0) lane f g (slice_index_or rs i [])
  turn-at before [] [] [] turns i lane at = cc
  turn-at before (n ∷ done) (l ∷ lanes) (r ∷ rs) turns zero lane at =
      let same : l ≡ lane = cc in
      let first : before + 1 ≡ before + 1 + 0 = omega arith in
      subst (λ x. TakesTurn m told (before + 1 + 0) n x f g r) same
      (subst (λ c. TakesTurn m told c n l f g r) first turns.0)
  turn-at before (n ∷ done) (l ∷ lanes) (r ∷ rs) turns (suc i) lane at =
      let next : before + 1 + 1 + i ≡ before + 1 + suc i = omega arith in
      subst (λ c. TakesTurn m told c (slice_index_or done i 0) lane f g (slice_index_or rs i [])) next
      (turn-at (before + 1) done lanes rs turns.1 i lane at)
  turn-at before [] [] (r ∷ rs) turns i lane at = absurd turns
  turn-at before [] (l ∷ lanes) rs turns i lane at = absurd turns
  turn-at before (n ∷ done) [] rs turns i lane at = absurd turns
  turn-at before (n ∷ done) (l ∷ lanes) [] turns i lane at = absurd turns

  pub turns-count : (before : ℕ) (done lanes : List ℕ) (rs : List (List R))
      → AreTurns m told f g before done lanes rs → (length done ≡ length lanes) × (length rs ≡ length lanes)
  turns-count before [] [] [] turns = (refl, refl)
  turns-count before (n ∷ done) (l ∷ lanes) (r ∷ rs) turns =
      let more = turns-count (before + 1) done lanes rs turns.1 in (ap suc more.0, ap suc more.1)
  turns-count before [] [] (r ∷ rs) turns = absurd turns
  turns-count before [] (l ∷ lanes) rs turns = absurd turns
  turns-count before (n ∷ done) [] rs turns = absurd turns
  turns-count before (n ∷ done) (l ∷ lanes) [] turns = absurd turns

  -- a caller's turn, if it has one
  pub record TurnOf (caller : ℕ) (done : List ℕ) (rs : List (List R)) : Type 0 where
    pub lane : ℕ
    pub turn : TakesTurn m told caller (at_caller 0 done caller) lane f g (at_caller [] rs caller)

  pub turn-of : (done lanes : List ℕ) (rs : List (List R)) → AreTurns m told f g 0 done lanes rs
      → (caller : ℕ) → TurnOf caller done rs ⊎ ((at_caller 0 done caller ≡ 0) × (at_caller [] rs caller ≡ []))
  turn-of done lanes rs turns zero = inr (refl, refl)
  turn-of done lanes rs turns (suc i) = elim (slice_get_cases lanes i).1 [
    | inl there ↦
        let next : 0 + 1 + i ≡ suc i = omega arith in
        inl (record {
          lane = there.0;
          turn = subst
              (λ c. TakesTurn m told c (slice_index_or done i 0) there.0 f g (slice_index_or rs i [])) next
              (turn-at 0 done lanes rs turns i there.0 there.2);
        })
    | inr past ↦
        let counts = turns-count 0 done lanes rs turns in
        inr (get_or_past done i 0 (omega (arith, counts.0, past.0)), get_or_past rs i [] (omega (arith, counts.1, past.0)))
  ]

  pub turns-few : (done lanes : List ℕ) (rs : List (List R)) → AreTurns m told f g 0 done lanes rs
      → (caller : ℕ) → at_caller 0 done caller + length (at_caller [] rs caller) < 2 ^ 32
  turns-few done lanes rs turns caller = elim (turn-of done lanes rs turns caller) [
    | inl own ↦ own.turn.few
    | inr none ↦ omega (arith, none.0, ap length none.1)
  ]

  pub turns-told : (done lanes : List ℕ) (rs : List (List R)) → AreTurns m told f g 0 done lanes rs
      → (caller line : ℕ) → at_caller 0 done caller < line
      → line ≤ at_caller 0 done caller + length (at_caller [] rs caller) → told caller line
  turns-told done lanes rs turns caller line low high = elim (turn-of done lanes rs turns caller) [
    | inl own ↦ own.turn.gate line low high
    | inr none ↦ absurd (omega (arith, low, high, none.0, ap length none.1))
  ]

  module _ (done lanes : List ℕ) (rs : List (List R)) (turns : AreTurns m told f g 0 done lanes rs)
      (rising : IsRising lanes) (D : List Entry)
      (added : (lane : ℕ) → Contains lanes lane → g.mine lane ≡ f.mine lane ++ of_lane lane D)
      (nowhere : (lane : ℕ) → (Contains lanes lane → ⊥) → of_lane lane D ≡ []) where
    -- an entry is of a lane of which the caller has the entry's tag
    record IsPlaced (e : Entry) : Type 0 where
      pub place : ℕ
      pub lane : slice_get lanes place ≡ Some e.lane
      pub caller : e.tag / 2 ^ 32 ≡ place + 1

    own-entries : (i lane : ℕ) → slice_get lanes i ≡ Some lane
        → AreLines m (i + 1) (of_lane lane D) (slice_index_or rs i []) (slice_index_or done i 0)
    own-entries i lane at =
        let turn = turn-at 0 done lanes rs turns i lane at in
        let caller : 0 + 1 + i ≡ i + 1 = omega arith in
        let same : turn.entries ≡ of_lane lane D =
        append_cancel_left (f.mine lane) turn.entries (of_lane lane D) (sym turn.mine ∙ added lane (at-contains lanes i lane at)) in
        subst (λ es. AreLines m (i + 1) es (slice_index_or rs i []) (slice_index_or done i 0)) same
        (subst (λ c. AreLines m c turn.entries (slice_index_or rs i []) (slice_index_or done i 0)) caller
        turn.lines)

    placed-in : (lane : ℕ) → AllByRecursion IsPlaced (of_lane lane D)
    placed-in lane = elim (cases_Bool (is_lane_of lanes lane)) [
      | inl own ↦
          let at = contains-at lanes lane (lane_is_of lanes lane own) in
          let turn = turn-at 0 done lanes rs turns at.0 lane at.1 in
          all-weaker (λ e. (e.tag / 2 ^ 32 ≡ at.0 + 1) × ((lane == e.lane) ≡ true)) IsPlaced
          (λ e is. record {
            place = at.0;
            lane = at.1 ∙ ap Some (eqb-true lane e.lane is.1);
            caller = is.0;
          }) (of_lane lane D)
          (all-both (λ e. e.tag / 2 ^ 32 ≡ at.0 + 1) (λ e. (lane == e.lane) ≡ true) (of_lane lane D)
          (lines-caller m (at.0 + 1) (of_lane lane D) (slice_index_or rs at.0 []) (slice_index_or done at.0 0)
          (own-entries at.0 lane at.1) turn.few) (all-pass (λ e. lane == e.lane) D))
      | inr other ↦ subst (AllByRecursion IsPlaced)
          (sym (nowhere lane (λ at. false≢true (sym other ∙ lane_passes lanes lane at)))) tt
    ]

    placed : AllByRecursion IsPlaced D
    placed = all-of (λ lane e. lane == e.lane) (λ e. e.lane) (λ e. eq-eqb e.lane e.lane refl) IsPlaced D placed-in

    -- of who has no lane there is no entry
    none-of : (caller : ℕ) → ((i lane : ℕ) → slice_get lanes i ≡ Some lane → i + 1 ≢ caller)
        → of_caller caller D ≡ []
    none-of caller other = filter-none (λ e. e.tag / 2 ^ 32 == caller) D
        (all-weaker IsPlaced (λ e. (e.tag / 2 ^ 32 == caller) ≡ false)
        (λ e is. ne_eqb (e.tag / 2 ^ 32) caller (λ same. other is.place e.lane is.lane (sym is.caller ∙ same))) D placed)

    -- a caller's entries are its lane's
    lane-of : (i lane : ℕ) → slice_get lanes i ≡ Some lane → of_caller (i + 1) D ≡ of_lane lane D
    lane-of i lane at = filter-agree (λ e. e.tag / 2 ^ 32 == i + 1) (λ e. lane == e.lane) D
        (all-weaker IsPlaced (λ e. (e.tag / 2 ^ 32 == i + 1) ≡ (lane == e.lane))
        (λ e is. elim (cases_Bool (lane == e.lane)) [
          | inl own ↦
              let there : slice_get lanes i ≡ Some e.lane = at ∙ ap Some (eqb-true lane e.lane own) in
              let same : is.place ≡ i = one-place lanes is.place i e.lane rising is.lane there in
              eq-eqb (e.tag / 2 ^ 32) (i + 1) (is.caller ∙ ap (λ k. k + 1) same) ∙ sym own
          | inr other ↦ ne_eqb (e.tag / 2 ^ 32) (i + 1) (λ same.
              let place : is.place ≡ i = omega (arith, same, is.caller) in
              let here : Some lane ≡ Some e.lane = sym at ∙ ap (slice_get lanes) (sym place) ∙ is.lane in
              let lanes_same : lane ≡ e.lane = cc in
              false≢true (sym other ∙ eq-eqb lane e.lane lanes_same)) ∙ sym other
        ]) D placed)

    -- each caller's entries are its lines of the turn
    pub merged : (caller : ℕ)
        → AreLines m caller (of_caller caller D) (at_caller [] rs caller) (at_caller 0 done caller)
    merged zero = subst (λ es. AreLines m 0 es [] 0) (sym (none-of 0 (λ i lane at same. omega arith))) tt
    merged (suc i) = elim (slice_get_cases lanes i).1 [
      | inl there ↦
          let next : i + 1 ≡ suc i = omega arith in
          subst (λ c. AreLines m c (of_caller c D) (slice_index_or rs i []) (slice_index_or done i 0)) next
          (subst (λ es. AreLines m (i + 1) es (slice_index_or rs i []) (slice_index_or done i 0))
          (sym (lane-of i there.0 there.2)) (own-entries i there.0 there.2))
      | inr past ↦
          let nothing : of_caller (suc i) D ≡ [] = none-of (suc i) (λ k lane at same.
          let here : k ≡ i = omega (arith, same) in
          let some : None ≡ Some lane = sym past.1 ∙ ap (slice_get lanes) (sym here) ∙ at in cc) in
          let counts = turns-count 0 done lanes rs turns in
          let silent : slice_index_or rs i [] ≡ [] = get_or_past rs i [] (omega (arith, counts.1, past.0)) in
          subst (λ es. AreLines m (suc i) es (slice_index_or rs i []) (slice_index_or done i 0)) (sym nothing)
          (subst (λ ss. AreLines m (suc i) [] ss (slice_index_or done i 0)) (sym silent) tt)
    ]
