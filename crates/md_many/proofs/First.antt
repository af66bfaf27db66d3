-- What the first line of a round comes to, which the pass of all lanes plays.
use Rattle.std.proofs.Common.{◌≡◌, ◌+◌, ◌<◌, ◌≤◌, ◌^◌, ℕ, cond, Option, Some, None, IsSome, Result, List, [], ◌++◌, length, take, drop, refl, sym, ap, subst, ◌∙◌, arith, inl, inr}
use Rattle.std.specs.Prelude.{◌==◌, IfSome, OnOk}
use Rattle.std.proofs.lemmas.Bool.{cases_Bool, eq-eqb, eqb-true}
use Rattle.std.proofs.lemmas.Result.{on_ok_weaker}
use Rattle.md_history.specs.State.{State}
use Rattle.md_history.specs.Counts.{Bounds, AllowAll, IsSmall}
use Rattle.md_history.specs.CountLaws.{small-more}
use Rattle.md_history.specs.Front.{Front, committed_in, replay_of}
use Rattle.md_history.specs.Engine.{IsFrontFrom, empty_front}
use Rattle.md_many_attempts.specs.Meaning.{Meaning}
use Rattle.md_many_attempts.specs.Lines.{AreLines, PlaysLines, IsSmallLine}
use Rattle.md_many.specs.Laws.{AllSuit, AreLawful, Law}
use Rattle.md_many_attempts.specs.ByCaller.{at_caller}
use Rattle.md_many.specs.Plan.{Plan}
use Rattle.md_many.specs.Rounds.{of_caller}
use Rattle.md_many.specs.Course.{of_one, KeepsMore, Stage, HoldsBetweenRounds}
use Rattle.md_many.specs.Played.{left_after}
use Rattle.md_many.proofs.Committed.{played-joins}
use Rattle.md_many.proofs.Coursing.{lines-of-one, joined-suit, stands-more, left-kept, left-fewer}
use Rattle.md_many.proofs.Handing.{kept-from, written-back}

pub one-own : {R : Type 0} (caller : ℕ) (rs : List R) → of_one caller rs caller ≡ rs
one-own caller rs = ap (λ b. cond b rs []) (eq-eqb caller caller refl)

-- what a line can do over a fresh engine is within its limits
pub first-small : {B R : Type 0} (m : Meaning B R) (law : Law R) → AreLawful m law
    → (start : State) (tags lanes : List ℕ) (f : Front) (more : Bounds) → law.good (replay_of start f) tags
    → f ≡ empty_front lanes → AllowAll law.cost more → (caller line : ℕ) → IsSmallLine more m caller line start
first-small m law laws start tags lanes f more leaves empty allow caller line =
    let here : law.good start tags = subst (λ s. law.good s tags) (ap (replay_of start) empty) leaves in
    wider (m.body_at caller line) (laws.small start tags caller line here)
  where
    wider : (o : Option _) → IfSome o (λ b. IsSmall law.cost (m.makes b) start)
        → IfSome o (λ b. IsSmall more (m.makes b) start)
    wider None small = tt
    wider (Some b) small = small-more law.cost more (m.makes b) start allow small

-- from the lines played so far to more of them, with these replies of one caller
pub record IsFurther {R : Type 0} (line_count : ℕ → ℕ) (Standing : List ℕ → Type 0) (done done' : List ℕ) (rs : List R)
    : Type 0 where
  pub callers : length done' ≡ length done
  pub stands : Standing done'
  pub kept : left_after line_count 0 done' ≤ left_after line_count 0 done
  pub less : 1 ≤ length rs → left_after line_count 0 done' < left_after line_count 0 done

pub further-less : {R T E : Type 0} (r : Result T E) (line_count : ℕ → ℕ) (Standing : List ℕ → Type 0) (done done' : List ℕ)
    (rs : List R) → OnOk r (IsFurther line_count Standing done done' rs) → 1 ≤ length rs
    → OnOk r (left_after line_count 0 done' < left_after line_count 0 done)
further-less r line_count Standing done done' rs further some = on_ok_weaker r (λ f. f.less some) further

module _ {B R : Type 0} {plan : Plan B R} {keeps : ℕ → List R → Type 0} {old : Stage}
    (stands : HoldsBetweenRounds plan keeps old) (laws : AreLawful plan.meaning plan.law)
    (is : IsFrontFrom old.start old.lanes old.front) (f' : Front) (is' : IsFrontFrom old.start old.lanes f')
    (caller n : ℕ) (rs : List R) (plays : PlaysLines plan.meaning caller n old.front.lanes old.front f' rs)
    (at : n ≡ at_caller 0 old.done caller) (few : n + length rs < 2 ^ 32) where
  joined : committed_in f' ≡ committed_in old.front ++ plays.entries
  joined = played-joins caller n old.start old.lanes old.front f' rs plays is is' stands.all stands.idle

  lines : (other : ℕ)
      → AreLines plan.meaning other (of_caller other plays.entries) (of_one caller rs other) (at_caller 0 old.done other)
  lines = lines-of-one plan.meaning caller plays.entries rs (at_caller 0 old.done)
      (subst (AreLines plan.meaning caller plays.entries rs) at plays.lines) (omega (arith, few, at))

  pub first-suit : AllSuit (plan.law.suits caller) (at_caller 0 old.done caller) rs
  first-suit = subst (AllSuit (plan.law.suits caller) (at_caller 0 old.done caller)) (one-own caller rs)
      (joined-suit stands laws is f' plays.entries (of_one caller rs) is' joined lines caller)

  module _ (keeps' : ℕ → List R → Type 0) (done' : List ℕ) (kept : KeepsMore (of_one caller rs) keeps keeps' old.done done')
      (has_line : (caller line : ℕ) → IsSome (plan.meaning.body_at caller line) → line ≤ plan.meaning.line_count caller) where
    pub first-stands : f'.lanes ≡ old.front.lanes → f'.pending ≡ old.front.pending
        → ((line : ℕ) → n < line → line ≤ n + length rs → plan.told caller line)
        → HoldsBetweenRounds plan keeps' (record old { front = f'; done = done' })
    first-stands same pending gate =
        stands-more stands laws is f' plays.entries (of_one caller rs) is' joined lines keeps' done' kept has_line (same ∙ stands.all)
        (pending ∙ stands.idle) (λ other line low high. elim (cases_Bool (other == caller)) [
          | inl own ↦
              let is : other ≡ caller = eqb-true other caller own in
              let count : length (of_one caller rs other) ≡ length rs = ap (λ b. length (cond b rs [])) own in
              let here : at_caller 0 old.done other ≡ at_caller 0 old.done caller = ap (at_caller 0 old.done) is in
              subst (λ c. plan.told c line) (sym is) (gate line (omega (arith, low, here, at)) (omega (arith, high, count, here, at)))
          | inr apart ↦
              let none : length (of_one caller rs other) ≡ 0 = ap (λ b. length (cond b rs [])) apart in
              absurd (omega (arith, low, high, none))
        ])

    pub first-kept : left_after plan.meaning.line_count 0 done' ≤ left_after plan.meaning.line_count 0 old.done
    first-kept = left-kept stands laws is f' plays.entries (of_one caller rs) is' joined lines keeps' done' kept has_line

    pub first-less : 1 ≤ caller → caller ≤ length old.done → 1 ≤ length rs
        → left_after plan.meaning.line_count 0 done' < left_after plan.meaning.line_count 0 old.done
    first-less low high some =
        left-fewer stands laws is f' plays.entries (of_one caller rs) is' joined lines keeps' done' kept has_line caller low high
        (omega (arith, some, ap length (one-own caller rs)))

  -- the same once the caller's replies were handed over and counted, through a part that is the whole
  pub first-further : {T E : Type 0} (r : Result T E) (keeps' : ℕ → List R → Type 0) (lent new : List ℕ) (len : ℕ)
      → OnOk r (KeepsMore (of_one caller rs) keeps keeps' lent new) → lent ≡ old.done → len ≡ length old.done
      → ((caller line : ℕ) → IsSome (plan.meaning.body_at caller line) → line ≤ plan.meaning.line_count caller)
      → f'.lanes ≡ old.front.lanes → f'.pending ≡ old.front.pending → ((line : ℕ) → n < line → line ≤ n + length rs → plan.told caller line)
      → 1 ≤ caller → caller ≤ length old.done
      → OnOk r (IsFurther plan.meaning.line_count (λ ns. HoldsBetweenRounds plan keeps' (record old { front = f'; done = ns })) old.done
      (take len (new ++ drop (length new) old.done)) rs)
  first-further r keeps' lent new len kept same long has_line here pending gate low high = on_ok_weaker r
      (λ more.
      let now : KeepsMore (of_one caller rs) keeps keeps' old.done new = kept-from more same in
      subst (λ ns. IsFurther plan.meaning.line_count (λ ns. HoldsBetweenRounds plan keeps' (record old { front = f'; done = ns }))
      old.done ns rs) (sym (written-back new old.done len now.callers long))
      (record {
        callers = now.callers;
        stands = first-stands keeps' new now has_line here pending gate;
        kept = first-kept keeps' new now has_line;
        less = first-less keeps' new now has_line low high;
      }))
      kept
