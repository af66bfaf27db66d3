-- How a run of callers goes on, and how it ends.
use Rattle.std.proofs.Common.{◌≡◌, ◌+◌, ◌<◌, ◌≤◌, ◌^◌, ℕ, zero, suc, cond, Bool, true, false, IsSome, List, [], ◌∷◌, ◌++◌, length, replicate, refl, sym, ap, subst, ◌∙◌, arith, inl, inr, append_assoc}
use Rattle.std.specs.Prelude.{◌==◌, ◌/◌, ◌⊎◌, filter, slice_index_or}
use Rattle.std.proofs.lemmas.Bool.{cases_Bool, eq-eqb, eqb-true, ne_eqb}
use Rattle.std.proofs.lemmas.List.{append-nil, length-append, length-replicate, get_or_past}
use Rattle.std.proofs.lemmas.List.Concat.{flat_map-append}
use Rattle.md_history.specs.declared.entries.Entry.{Entry}
use Rattle.md_history.specs.State.{State, run, IsRight}
use Rattle.md_history.specs.History.{AllDecided, acts_of}
use Rattle.md_history.specs.HistoryLaws.{run-append, right-rest, committed-right}
use Rattle.md_history.specs.Front.{Front, LegalFrom, committed_in, replay_of}
use Rattle.md_history.specs.Engine.{IsFrontFrom, SettlesFrom, HasRoom, empty_front, needed}
use Rattle.md_history.proofs.PlainFronts.{acts_of-append}
use Rattle.md_many_attempts.specs.Meaning.{Meaning}
use Rattle.md_many_attempts.specs.Lines.{AreLines}
use Rattle.md_many.specs.Laws.{AllSuit, AreLawful}
use Rattle.md_many_attempts.specs.ByCaller.{at_caller}
use Rattle.md_many.specs.Plan.{Plan}
use Rattle.md_many.specs.Rounds.{of_caller, AreWithin}
use Rattle.md_many.specs.Course.{of_one, KeepsMore, Stage, stage, HoldsBetweenRounds}
use Rattle.md_many.specs.Played.{committed_of, state_after, AreDecidedAndLegal, tags_of, HasPlayedAll, EachLineOnce, left_after}
use Rattle.md_many.specs.Tags.{tags_after, IsInterleaving}
use Rattle.md_many.proofs.TagLaws.{lines-length, lines-tags}
use Rattle.md_many_attempts.proofs.Following.{lines-then}
use Rattle.md_many.proofs.Merging.{lines-caller, all-weaker, filter-all, filter-none}
use Rattle.md_many.proofs.Standing.{caller-append, KeepsGood, keeps-good}
use Rattle.md_many.proofs.Committed.{settled-same}

pub committed_of-push : (fronts : List Front) (g : Front)
    → committed_of (fronts ++ g ∷ []) ≡ committed_of fronts ++ committed_in g
committed_of-push fronts g =
    flat_map-append committed_in fronts (g ∷ []) ∙ ap (λ es. committed_of fronts ++ es) (append-nil (committed_in g))

state_after-push : (start : State) (fronts : List Front) (g : Front)
    → state_after start (fronts ++ g ∷ []) ≡ replay_of (state_after start fronts) g
state_after-push start [] g = refl
state_after-push start (f ∷ fs) g = state_after-push (replay_of start f) fs g

legal-push : (start : State) (fronts : List Front) (g : Front) → AreDecidedAndLegal start fronts
    → LegalFrom (state_after start fronts) g → AllDecided g.known → AreDecidedAndLegal start (fronts ++ g ∷ [])
legal-push start [] g legal last decided = (last, decided, tt)
legal-push start (f ∷ fs) g legal last decided =
    (legal.0, legal.1, legal-push (replay_of start f) fs g legal.2 last decided)

-- the lines of one caller, told of each caller
pub lines-of-one : {B R : Type 0} (m : Meaning B R) (caller : ℕ)
    (es : List Entry) (rs : List R) (done : ℕ → ℕ) → AreLines m caller es rs (done caller)
    → done caller + length rs < 2 ^ 32 → (other : ℕ)
    → AreLines m other (of_caller other es) (of_one caller rs other) (done other)
lines-of-one m caller es rs done lines few other =
    let mine = lines-caller m caller es rs (done caller) lines few in
    elim (cases_Bool (other == caller)) [
      | inl same ↦
          let is : other ≡ caller = eqb-true other caller same in
          let all : of_caller other es ≡ es = filter-all (λ e. e.tag / 2 ^ 32 == other) es
          (all-weaker (λ e. e.tag / 2 ^ 32 ≡ caller) (λ e. (e.tag / 2 ^ 32 == other) ≡ true)
          (λ e at. eq-eqb (e.tag / 2 ^ 32) other (at ∙ sym is)) es mine) in
          subst (λ xs. AreLines m other xs (of_one caller rs other) (done other)) (sym all)
          (subst (λ ss. AreLines m other es ss (done other)) (sym (ap (λ b. cond b rs []) same))
          (subst (λ c. AreLines m c es rs (done c)) (sym is) lines))
      | inr apart ↦
          let none : of_caller other es ≡ [] = filter-none (λ e. e.tag / 2 ^ 32 == other) es
          (all-weaker (λ e. e.tag / 2 ^ 32 ≡ caller) (λ e. (e.tag / 2 ^ 32 == other) ≡ false)
          (λ e at. ne_eqb (e.tag / 2 ^ 32) other (λ same. let is : other ≡ caller = sym same ∙ at in
          let yes : (other == caller) ≡ true = eq-eqb other caller is in cc)) es mine) in
          subst (λ xs. AreLines m other xs (of_one caller rs other) (done other)) (sym none)
          (subst (λ ss. AreLines m other [] ss (done other)) (sym (ap (λ b. cond b rs []) apart)) tt)
    ]

-- callers with so many lines at least, caller by caller
within-each : (line_count : ℕ → ℕ) (before : ℕ) (done : List ℕ)
    → ((i : ℕ) → i < length done → slice_index_or done i 0 ≤ line_count (before + 1 + i))
    → AreWithin line_count before done
within-each line_count before [] each = tt
within-each line_count before (n ∷ done) each = (
  (let first : n ≤ line_count (before + 1 + 0) = each 0 (omega arith) in
      let same : before + 1 + 0 ≡ before + 1 = omega arith in subst (λ c. n ≤ line_count c) same first),
  within-each line_count (before + 1) done (λ i inside.
      let next : before + 1 + suc i ≡ before + 1 + 1 + i = omega arith in
      subst (λ c. slice_index_or done i 0 ≤ line_count c) next (each (suc i) (omega arith))),
)

-- what a list has at the next caller
pub at-next : (done : List ℕ) (i : ℕ) → at_caller 0 done (i + 1) ≡ slice_index_or done i 0
at-next done i = let next : suc i ≡ i + 1 = omega arith in ap (at_caller 0 done) (sym next)

pub within-at : (line_count : ℕ → ℕ) (before : ℕ) (done : List ℕ) → AreWithin line_count before done
    → (i : ℕ) → i < length done → slice_index_or done i 0 ≤ line_count (before + 1 + i)
within-at line_count before [] within i inside = absurd (omega arith)
within-at line_count before (n ∷ done) within zero inside =
    let same : before + 1 ≡ before + 1 + 0 = omega arith in subst (λ c. n ≤ line_count c) same within.0
within-at line_count before (n ∷ done) within (suc i) inside =
    let next : before + 1 + 1 + i ≡ before + 1 + suc i = omega arith in
    subst (λ c. slice_index_or done i 0 ≤ line_count c) next
    (within-at line_count (before + 1) done within.1 i (omega arith))

-- fewer lines are left
left-falls : (line_count : ℕ → ℕ) (before : ℕ) (done done' : List ℕ) → length done' ≡ length done
    → ((i : ℕ) → slice_index_or done i 0 ≤ slice_index_or done' i 0)
    → left_after line_count before done' ≤ left_after line_count before done
left-falls line_count before [] [] same more = omega arith
left-falls line_count before (n ∷ done) (m ∷ done') same more =
    omega (arith, more 0, left-falls line_count (before + 1) done done' (omega arith) (λ i. more (suc i)))
left-falls line_count before [] (m ∷ done') same more = absurd (omega arith)
left-falls line_count before (n ∷ done) [] same more = absurd (omega arith)

left-less : (line_count : ℕ → ℕ) (before : ℕ) (done done' : List ℕ) → length done' ≡ length done
    → ((i : ℕ) → slice_index_or done i 0 ≤ slice_index_or done' i 0) → AreWithin line_count before done'
    → (i : ℕ) → i < length done → slice_index_or done i 0 < slice_index_or done' i 0
    → left_after line_count before done' < left_after line_count before done
left-less line_count before (n ∷ done) (m ∷ done') same more within zero inside some =
    omega (arith, some, within.0, left-falls line_count (before + 1) done done' (omega arith) (λ i. more (suc i)))
left-less line_count before (n ∷ done) (m ∷ done') same more within (suc i) inside some =
    omega (arith, more 0, left-less line_count (before + 1) done done' (omega arith) (λ j. more (suc j)) within.1 i (omega arith) some)
left-less line_count before [] done' same more within i inside some = absurd (omega arith)
left-less line_count before (n ∷ done) [] same more within i inside some = absurd (omega arith)

module _ {B R : Type 0} (m : Meaning B R)
    (has_line : (caller line : ℕ) → IsSome (m.body_at caller line) → line ≤ m.line_count caller) where
  -- lines that were played are lines that there are
  lines-within : (caller : ℕ) (es : List Entry) (rs : List R) (n : ℕ) → AreLines m caller es rs n
      → n ≤ m.line_count caller → n + length rs ≤ m.line_count caller
  lines-within caller [] [] n lines within = omega arith
  lines-within caller (e ∷ es) (r ∷ rs) n lines within =
      let here : n + 1 ≤ m.line_count caller = has_line caller (n + 1) (rw lines.0.there refl) in
      omega (arith, lines-within caller es rs (n + 1) lines.1 here)
  lines-within caller [] (r ∷ rs) n lines within = absurd lines
  lines-within caller (e ∷ es) [] n lines within = absurd lines

module _ {B R : Type 0} {plan : Plan B R} {keeps : ℕ → List R → Type 0} {old : Stage}
    (stands : HoldsBetweenRounds plan keeps old) (laws : AreLawful plan.meaning plan.law)
    (is : IsFrontFrom old.start old.lanes old.front) where
  -- a closed pass leaves the state that it had
  settled-replay : (g : Front) → SettlesFrom old.start old.front g → replay_of old.start g ≡ replay_of old.start old.front
  settled-replay g settled =
      ap (λ es. run old.start (acts_of es)) (settled-same old.start old.lanes old.front g is stands.all stands.idle settled)

  settled-entries : (g : Front) → SettlesFrom old.start old.front g
      → committed_of (old.fronts ++ g ∷ []) ≡ committed_of old.fronts ++ committed_in old.front
  settled-entries g settled =
      committed_of-push old.fronts g
      ∙ ap (λ es. committed_of old.fronts ++ es) (settled-same old.start old.lanes old.front g is stands.all stands.idle settled)

  settled-legal : (g : Front) → SettlesFrom old.start old.front g → AreDecidedAndLegal plan.law.opening (old.fronts ++ g ∷ [])
  settled-legal g settled =
      legal-push plan.law.opening old.fronts g stands.legal (subst (λ s. LegalFrom s g) stands.starts settled.legal)
      settled.settles.decided

  settled-after : (g : Front) → SettlesFrom old.start old.front g → replay_of old.start g ≡ state_after plan.law.opening (old.fronts ++ g ∷ [])
  settled-after g settled = ap (λ s. replay_of s g) stands.starts ∙ sym (state_after-push plan.law.opening old.fronts g)

  -- a renewal has room
  pub has-room : (room : ℕ) → plan.law.most ≤ room → HasRoom old.start room old.front
  has-room room enough g settled =
      let few = laws.room (replay_of old.start old.front) (tags_of (committed_of old.fronts ++ committed_in old.front)) stands.leaves in
      let same : needed (replay_of old.start g) ≡ needed (replay_of old.start old.front) = ap needed (settled-replay g settled) in
      omega (arith, few, enough, same)

  -- the engine was renewed
  pub stands-renewed : (g : Front) (start' : State) (lanes' : List ℕ) (f' : Front) → SettlesFrom old.start old.front g
      → start' ≡ replay_of old.start g → lanes' ≡ old.lanes → f' ≡ empty_front lanes'
      → HoldsBetweenRounds plan keeps (record old { start = start'; lanes = lanes'; fronts = old.fronts ++ g ∷ []; front = f' })
  stands-renewed g start' lanes' f' settled begins same empty =
      let none : committed_in f' ≡ [] = ap committed_in empty in
      let entries : committed_of (old.fronts ++ g ∷ []) ++ committed_in f' ≡ committed_of old.fronts ++ committed_in old.front =
      ap (λ es. committed_of (old.fronts ++ g ∷ []) ++ es) none ∙ append-nil (committed_of (old.fronts ++ g ∷ []))
      ∙ settled-entries g settled in
      let state : replay_of start' f' ≡ replay_of old.start old.front =
      ap (λ es. run start' (acts_of es)) none ∙ begins ∙ settled-replay g settled in
      record {
        legal = settled-legal g settled;
        starts = begins ∙ settled-after g settled;
        all = ap (λ (x : Front). x.lanes) empty;
        idle = ap (λ (x : Front). x.pending) empty;
        callers = stands.callers ∙ ap length (sym same);
        within = stands.within;
        each = λ caller.
            subst (HasPlayedAll plan.meaning keeps caller (at_caller 0 old.done caller)) (sym entries) (stands.each caller);
        gate = stands.gate;
        leaves = subst (λ es. plan.law.good (replay_of start' f') (tags_of es)) (sym entries)
            (subst (λ s. plan.law.good s (tags_of (committed_of old.fronts ++ committed_in old.front))) (sym state) stands.leaves);
      }

  -- entries that are the callers' next lines joined what was committed
  module _ (f' : Front) (entries : List Entry) (more : ℕ → List R) (is' : IsFrontFrom old.start old.lanes f')
      (joined : committed_in f' ≡ committed_in old.front ++ entries)
      (lines : (caller : ℕ)
      → AreLines plan.meaning caller (of_caller caller entries) (more caller) (at_caller 0 old.done caller)) where
    counted : (caller : ℕ)
        → length (of_caller caller (committed_of old.fronts ++ committed_in old.front)) ≡ at_caller 0 old.done caller
    counted caller =
        let each = stands.each caller in
        lines-length plan.meaning caller (of_caller caller (committed_of old.fronts ++ committed_in old.front)) each.replies 0 each.lines
        ∙ each.count

    joined-good : KeepsGood plan.meaning plan.law laws (replay_of old.start old.front)
        (committed_of old.fronts ++ committed_in old.front) entries
    joined-good = keeps-good plan.meaning plan.law laws entries (replay_of old.start old.front)
        (committed_of old.fronts ++ committed_in old.front) stands.leaves
        (λ caller. ((stands.each caller).replies, (stands.each caller).lines))
        (λ caller. (
          more caller,
          subst (AreLines plan.meaning caller (of_caller caller entries) (more caller)) (sym (counted caller))
              (lines caller),
        ))
        (right-rest old.start (acts_of (committed_in old.front)) (acts_of entries)
        (subst (IsRight old.start) (ap acts_of joined ∙ acts_of-append (committed_in old.front) entries)
        (committed-right old.start f'.seen f'.known is'.legal)))

    -- their replies suit them
    pub joined-suit : (caller : ℕ) → AllSuit (plan.law.suits caller) (at_caller 0 old.done caller) (more caller)
    joined-suit caller = subst (λ n. AllSuit (plan.law.suits caller) n (more caller)) (counted caller)
        (joined-good.suit caller (more caller)
        (subst (AreLines plan.meaning caller (of_caller caller entries) (more caller)) (sym (counted caller))
        (lines caller)))

    -- and their replies were kept
    module _ (keeps' : ℕ → List R → Type 0) (done' : List ℕ) (kept : KeepsMore more keeps keeps' old.done done')
        (has_line : (caller line : ℕ) → IsSome (plan.meaning.body_at caller line) → line ≤ plan.meaning.line_count caller) where
      abbrev pub all-entries : List Entry
      all-entries = committed_of old.fronts ++ committed_in f'

      regroup : (committed_of old.fronts ++ committed_in old.front) ++ entries ≡ all-entries
      regroup = append_assoc (committed_of old.fronts) (committed_in old.front) entries
          ∙ ap (λ es. committed_of old.fronts ++ es) (sym joined)

      pub each-more : (caller : ℕ) → HasPlayedAll plan.meaning keeps' caller (at_caller 0 done' caller) all-entries
      each-more caller =
          let was = stands.each caller in
          let parts : of_caller caller all-entries
          ≡ of_caller caller (committed_of old.fronts ++ committed_in old.front) ++ of_caller caller entries =
          ap (of_caller caller) (sym regroup) ∙ caller-append caller (committed_of old.fronts ++ committed_in old.front) entries in
          record {
            replies = was.replies ++ more caller;
            kept = kept.kept caller was.replies was.kept was.count;
            count = length-append was.replies (more caller) ∙ ap (λ n. n + length (more caller)) was.count
                ∙ sym (kept.counted caller);
            lines = subst (λ es. AreLines plan.meaning caller es (was.replies ++ more caller) 0) (sym parts)
                (lines-then plan.meaning caller (of_caller caller (committed_of old.fronts ++ committed_in old.front))
                (of_caller caller entries) was.replies (more caller) 0 (at_caller 0 old.done caller) was.lines
                (omega (arith, was.count)) (lines caller));
          }

      pub within-more : AreWithin plan.meaning.line_count 0 done'
      within-more = within-each plan.meaning.line_count 0 done' (λ i inside.
          let each = each-more (suc i) in
          let next : suc i ≡ 0 + 1 + i = omega arith in
          let inside' : 0 + length each.replies ≤ plan.meaning.line_count (suc i) =
          lines-within plan.meaning has_line (suc i) (of_caller (suc i) all-entries) each.replies 0 each.lines
          (omega arith) in
          subst (λ c. slice_index_or done' i 0 ≤ plan.meaning.line_count c) next (omega (arith, inside', each.count)))

      pub stands-more : f'.lanes ≡ old.lanes → f'.pending ≡ []
          → ((caller line : ℕ) → at_caller 0 old.done caller < line
          → line ≤ at_caller 0 old.done caller + length (more caller) → plan.told caller line)
          → HoldsBetweenRounds plan keeps' (record old { front = f'; done = done' })
      stands-more all idle gate = record {
        legal = stands.legal;
        starts = stands.starts;
        all = all;
        idle = idle;
        callers = kept.callers ∙ stands.callers;
        within = within-more;
        each = each-more;
        gate = λ caller line low high. elim (later (at_caller 0 old.done caller) line) [
          | inl before ↦ stands.gate caller line low before
          | inr after ↦ gate caller line after (omega (arith, high, kept.counted caller))
        ];
        leaves = subst (λ s. plan.law.good s (tags_of all-entries)) (sym state)
            (subst (λ es. plan.law.good (run (replay_of old.start old.front) (acts_of entries)) (tags_of es)) regroup joined-good.leaves);
      }
        where
          later : (n line : ℕ) → (line ≤ n) ⊎ (n < line)
          later zero zero = inl (omega arith)
          later zero (suc line) = inr (omega arith)
          later (suc n) zero = inl (omega arith)
          later (suc n) (suc line) = elim (later n line) [ inl low ↦ inl (omega arith) | inr high ↦ inr (omega arith) ]

          state : replay_of old.start f' ≡ run (replay_of old.start old.front) (acts_of entries)
          state = ap (λ es. run old.start (acts_of es)) joined ∙ ap (run old.start) (acts_of-append (committed_in old.front) entries)
              ∙ run-append old.start (acts_of (committed_in old.front)) (acts_of entries)

      -- no more lines are left than were
      pub left-kept : left_after plan.meaning.line_count 0 done' ≤ left_after plan.meaning.line_count 0 old.done
      left-kept = left-falls plan.meaning.line_count 0 old.done done' kept.callers (λ i. omega (arith, kept.counted (suc i)))

      -- and fewer, if a caller played some
      pub left-fewer : (caller : ℕ) → 1 ≤ caller → caller ≤ length old.done → 1 ≤ length (more caller)
          → left_after plan.meaning.line_count 0 done' < left_after plan.meaning.line_count 0 old.done
      left-fewer zero low high some = absurd (omega arith)
      left-fewer (suc i) low high some = left-less plan.meaning.line_count 0 old.done done' kept.callers
          (λ j. omega (arith, kept.counted (suc j))) within-more i (omega arith) (omega (arith, kept.counted (suc i), some))

  -- no caller has a line left: each has played all of its lines
  pub whole-count : (caller_count : ℕ) → length old.lanes ≡ caller_count
      → ((caller : ℕ) → (caller ≡ 0) ⊎ (caller_count < caller) → plan.meaning.line_count caller ≡ 0)
      → ((caller : ℕ) → 1 ≤ caller → caller ≤ length old.done → at_caller 0 old.done caller ≡ plan.meaning.line_count caller)
      → (caller : ℕ) → at_caller 0 old.done caller ≡ plan.meaning.line_count caller
  whole-count caller_count callers none whole zero = sym (none 0 (inl refl))
  whole-count caller_count callers none whole (suc i) = elim (cases_past i (length old.done)) [
    | inl inside ↦ whole (suc i) (omega arith) (omega arith)
    | inr past ↦ get_or_past old.done i 0 past
        ∙ sym (none (suc i) (inr (omega (arith, past, stands.callers, callers))))
  ]
    where
      cases_past : (i n : ℕ) → (i < n) ⊎ (n ≤ i)
      cases_past zero zero = inr (omega arith)
      cases_past zero (suc n) = inl (omega arith)
      cases_past (suc i) zero = inr (omega arith)
      cases_past (suc i) (suc n) =
          elim (cases_past i n) [ inl low ↦ inl (omega arith) | inr high ↦ inr (omega arith) ]

  -- and the engine was closed
  pub all-played : (g : Front) (contents : State) → SettlesFrom old.start old.front g → contents ≡ replay_of old.start g
      → ((caller : ℕ) → at_caller 0 old.done caller ≡ plan.meaning.line_count caller)
      → EachLineOnce plan.meaning keeps plan.law.good plan.law.opening (old.fronts ++ g ∷ []) contents
  all-played g contents settled left all = record {
    legal = settled-legal g settled;
    each = λ caller. subst (λ n. HasPlayedAll plan.meaning keeps caller n (committed_of (old.fronts ++ g ∷ []))) (all caller)
        (subst (HasPlayedAll plan.meaning keeps caller (at_caller 0 old.done caller)) (sym (settled-entries g settled))
        (stands.each caller));
    replay = left ∙ settled-after g settled;
    stands = subst (λ es. plan.law.good contents (tags_of es)) (sym (settled-entries g settled))
        (subst (λ s. plan.law.good s (tags_of (committed_of old.fronts ++ committed_in old.front)))
        (sym (left ∙ settled-replay g settled)) stands.leaves);
  }

same-at : (z n i : ℕ) → slice_index_or (replicate n z) i z ≡ z
same-at z zero i = refl
same-at z (suc n) zero = refl
same-at z (suc n) (suc i) = same-at z n i

none-at : (z n caller : ℕ) → at_caller z (replicate n z) caller ≡ z
none-at z n zero = refl
none-at z n (suc i) = same-at z n i

-- at the beginning nothing is played
pub stands-first : {B R : Type 0} (plan : Plan B R) (keeps : ℕ → List R → Type 0) → AreLawful plan.meaning plan.law
    → (start : State) (lanes : List ℕ) (f : Front) → start ≡ plan.law.opening → f ≡ empty_front lanes
    → ((caller : ℕ) → keeps caller [])
    → HoldsBetweenRounds plan keeps (stage start lanes [] f (replicate (length lanes) 0))
stands-first plan keeps laws start lanes f begins empty kept =
    let none : committed_in f ≡ [] = ap committed_in empty in
    let state : replay_of start f ≡ plan.law.opening = ap (λ es. run start (acts_of es)) none ∙ begins in
    record {
      legal = tt;
      starts = begins;
      all = ap (λ (x : Front). x.lanes) empty;
      idle = ap (λ (x : Front). x.pending) empty;
      callers = length-replicate (length lanes) 0;
      within = within-each plan.meaning.line_count 0 (replicate (length lanes) 0)
          (λ i inside. omega (arith, same-at 0 (length lanes) i));
      each = λ caller. record {
        replies = [];
        kept = kept caller;
        count = sym (none-at 0 (length lanes) caller);
        lines = subst (λ es. AreLines plan.meaning caller (of_caller caller es) [] 0) (sym none) tt;
      };
      gate = λ caller line low high. absurd (omega (arith, low, high, none-at 0 (length lanes) caller));
      leaves = subst (λ es. plan.law.good (replay_of start f) (tags_of es)) (sym none)
          (subst (λ s. plan.law.good s []) (sym state) laws.opens);
    }

filter-map : (p : ℕ → Bool) (es : List Entry) → filter p (tags_of es) ≡ tags_of (filter (λ (e : Entry). p e.tag) es)
filter-map p [] = refl
filter-map p (e ∷ es) = elim (cases_Bool (p e.tag)) [
  | inl passes ↦ rw passes (ap (λ ts. e.tag ∷ ts) (filter-map p es))
  | inr fails ↦ rw fails (filter-map p es)
]

-- the callers' lines, each once, are an interleaving
pub are-interleaving : {B R : Type 0} (m : Meaning B R) (keeps : ℕ → List R → Type 0) (es : List Entry)
    → ((caller : ℕ) → HasPlayedAll m keeps caller (m.line_count caller) es)
    → IsInterleaving m.line_count (tags_of es)
are-interleaving m keeps es each caller =
    filter-map (λ tag. tag / 2 ^ 32 == caller) es
    ∙ lines-tags m caller (of_caller caller es) (each caller).replies 0 (each caller).lines
    ∙ ap (tags_after caller 0) (each caller).count
