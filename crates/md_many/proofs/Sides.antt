-- What the turns of a round come to, side by side.
use Rattle.std.proofs.Common.{◌≡◌, ◌+◌, ◌<◌, ◌≤◌, ◌^◌, ℕ, IsSome, List, [], length, sym, subst, ◌∙◌}
use Rattle.md_history.specs.Front.{Front}
use Rattle.md_history.specs.Engine.{IsFrontFrom, IsRising}
use Rattle.md_many_attempts.specs.Meaning.{Meaning}
use Rattle.md_many_attempts.specs.Lines.{AreLines}
use Rattle.md_many.specs.Laws.{AllSuit, AreLawful}
use Rattle.md_many_attempts.specs.ByCaller.{at_caller}
use Rattle.md_many.specs.Plan.{Plan}
use Rattle.md_many.specs.Rounds.{of_caller, AreTurns, PlaysTurns}
use Rattle.md_many.specs.Course.{KeepsMore, Stage, HoldsBetweenRounds}
use Rattle.md_many.specs.Played.{left_after}
use Rattle.md_many.proofs.Merging.{merged, turns-count, turns-few, turns-told}
use Rattle.md_many.proofs.Committed.{Joined, goes-on}
use Rattle.md_many.proofs.Coursing.{joined-suit, stands-more, left-kept}

module _ {B R : Type 0} {plan : Plan B R} {keeps : ℕ → List R → Type 0} {old : Stage}
    (stands : HoldsBetweenRounds plan keeps old) (laws : AreLawful plan.meaning plan.law)
    (is : IsFrontFrom old.start old.lanes old.front) (f' : Front) (is' : IsFrontFrom old.start old.lanes f')
    (rs : List (List R)) (plays : PlaysTurns plan.meaning plan.told 0 old.done old.front f' rs) where
  all' : f'.lanes ≡ old.lanes
  all' = plays.lanes ∙ stands.all

  turns : AreTurns plan.meaning plan.told old.front f' 0 old.done old.lanes rs
  turns = subst (λ ls. AreTurns plan.meaning plan.told old.front f' 0 old.done ls rs) stands.all plays.turns

  joined : Joined old.lanes old.front f'
  joined = goes-on old.start old.lanes old.front f' is is' stands.all all' stands.idle (plays.idle stands.idle) plays.seen plays.known

  lines : (caller : ℕ)
      → AreLines plan.meaning caller (of_caller caller joined.entries) (at_caller [] rs caller) (at_caller 0 old.done caller)
  lines = merged plan.meaning plan.told old.front f' old.done old.lanes rs turns (subst IsRising stands.all is.rising) joined.entries joined.added
      joined.nowhere

  pub sides-count : length rs ≡ length old.done
  sides-count = let counts = turns-count plan.meaning plan.told old.front f' 0 old.done old.lanes rs turns in counts.1 ∙ sym counts.0

  pub sides-few : (caller : ℕ) → at_caller 0 old.done caller + length (at_caller [] rs caller) < 2 ^ 32
  sides-few = turns-few plan.meaning plan.told old.front f' old.done old.lanes rs turns

  pub sides-suit : (caller : ℕ) → AllSuit (plan.law.suits caller) (at_caller 0 old.done caller) (at_caller [] rs caller)
  sides-suit = joined-suit stands laws is f' joined.entries (at_caller [] rs) is' joined.is lines

  module _ (keeps' : ℕ → List R → Type 0) (done' : List ℕ) (kept : KeepsMore (at_caller [] rs) keeps keeps' old.done done')
      (has_line : (caller line : ℕ) → IsSome (plan.meaning.body_at caller line) → line ≤ plan.meaning.line_count caller) where
    sides-stand : HoldsBetweenRounds plan keeps' (record old { front = f'; done = done' })
    sides-stand =
        stands-more stands laws is f' joined.entries (at_caller [] rs) is' joined.is lines keeps' done' kept has_line all'
        (plays.idle stands.idle) (turns-told plan.meaning plan.told old.front f' old.done old.lanes rs turns)

    sides-kept : left_after plan.meaning.line_count 0 done' ≤ left_after plan.meaning.line_count 0 old.done
    sides-kept = left-kept stands laws is f' joined.entries (at_caller [] rs) is' joined.is lines keeps' done' kept has_line

    pub sides-further : HoldsBetweenRounds plan keeps' (record old { front = f'; done = done' })
        × (left_after plan.meaning.line_count 0 done' ≤ left_after plan.meaning.line_count 0 old.done)
    sides-further = (sides-stand, sides-kept)

-- the same of a list that is equal
pub plays-from : {B R : Type 0} {m : Meaning B R} {told : ℕ → ℕ → Type 0} {before : ℕ} {d d0 : List ℕ} {f f' : Front} {rs : List (List R)} → PlaysTurns m told before d f f' rs
    → d ≡ d0 → PlaysTurns m told before d0 f f' rs
plays-from {m = m} {told = told} {before = before} {f = f} {f' = f'} {rs = rs} plays same =
    subst (λ ns. PlaysTurns m told before ns f f' rs) same plays
