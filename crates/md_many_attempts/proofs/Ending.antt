-- A turn and its last batch.
use Rattle.std.proofs.Common.{◌≡◌, ◌+◌, ◌*◌, ◌<◌, ◌≤◌, ◌^◌, ◌∷◌, ◌++◌, ℕ, List, [], length, refl, sym, ap, subst, arith, inl, inr}
use Rattle.std.specs.Prelude.{◌-◌, min}
use Rattle.std.proofs.lemmas.Bool.{cases_lt}
use Rattle.std.proofs.lemmas.List.{append-nil, length-append}
use Rattle.md_history.specs.declared.engines.Engine.{Ghosts as EngineWords}
use Rattle.md_many_attempts.specs.declared.attempts.Turn.{Turn}
use Rattle.md_many_attempts.specs.declared.attempts.End.{End}
use Rattle.md_many_attempts.specs.declared.attempts.End.TheVariants.{Lines, Attempts, Limit, Conflicts}
use Rattle.md_many_attempts.specs.declared.attempts.TheConstants.{MOST_CONFLICTS}
use Rattle.md_many_attempts.specs.Batches.{BeginsFew, BatchEndsBy, HasTriedSince}
use Rattle.md_many_attempts.specs.Lines.{PlaysLines}
use Rattle.md_many_attempts.specs.Meaning.{Meaning}
use Rattle.md_many_attempts.specs.Tags.{tag_of}
use Rattle.md_many_attempts.specs.Turns.{AllStopByConflict, EndsBy, HasTriedInVain, IsWithinAttempts, StopsByConflict, stretch}
use Rattle.md_many_attempts.proofs.Following.{plays-then}
use Rattle.md_many_attempts.proofs.Playing.{played-none}

-- what is so of each line up to one, and of each from there to another
pub told-then : (P : ℕ → Type 0) (first middle last : ℕ) → ((line : ℕ) → first < line → line ≤ middle → P line)
    → ((line : ℕ) → middle < line → line ≤ last → P line) → (line : ℕ) → first < line → line ≤ last → P line
told-then P first middle last low high line after before = elim (cases_lt middle line) [
  | inl past ↦ high line past before
  | inr within ↦ low line after within
]

module _ {E P : Type 0} (e : EngineWords E P) (engine : E) (tag : ℕ) where
  -- attempts that met conflicts follow others
  pub conflicts-then : (old : P) (first : List P) (middle : P) (second : List P) (new : P)
      → AllStopByConflict e engine tag old first middle → AllStopByConflict e engine tag middle second new
      → AllStopByConflict e engine tag old (first ++ second) new
  conflicts-then old [] middle second new before after =
      subst (λ p. AllStopByConflict e engine tag p second new) before after
  conflicts-then old (next ∷ later) middle second new before after =
      (before.0, conflicts-then next later middle second new before.1 after)

  -- one attempt more met a conflict
  pub conflicts-more : (old : P) (first : List P) (was new : P) → AllStopByConflict e engine tag old first was
      → StopsByConflict e engine tag was new → AllStopByConflict e engine tag old (first ++ new ∷ []) new
  conflicts-more old first was new before one = conflicts-then old first was (new ∷ []) new before (one, refl)

module _ {E P B R : Type 0} (e : EngineWords E P) (engine : E) (m : Meaning B R) (turn : Turn) (old : P) where
  -- no attempt was made yet
  pub vain-none : (replies : List R) (conflicts : ℕ) → e.of engine old → replies ≡ [] → conflicts ≡ 0
      → HasTriedInVain (stretch e engine m turn old old replies) conflicts
  vain-none replies conflicts of none zero = record {
    point = old;
    of = of;
    played = rw none (played-none m turn.caller turn.done (e.front old)).plays;
    after = [];
    count = sym zero;
    each = refl;
  }

  -- a turn that is one batch ends by what this ends by
  pub ends-alone : (before after : ℕ) (new : P) (replies : List R) (end : End) → e.of engine old → before ≡ 0
      → BatchEndsBy (stretch e engine m turn old new replies) before end after
      → EndsBy (stretch e engine m turn old new replies) end
  ends-alone before after new replies Lines of zero ends = ends
  ends-alone before after new replies Attempts of zero ends = ends.all
  ends-alone before after new replies (Limit limit) of zero ends = ends
  ends-alone before after new replies Conflicts of zero ends = elim ends [
    | inl none ↦ record {
      point = old;
      of = of;
      played = rw none.none (played-none m turn.caller turn.done (e.front old)).plays;
      after = none.after;
      count = omega (arith, none.count, zero);
      each = subst (λ line. AllStopByConflict e engine (tag_of turn.caller line) old none.after new)
          (omega (arith, ap length none.none)) none.each;
    }
    | inr some ↦ some
  ]

  module _ (done attempts before : ℕ) (was new : P) (rs ss : List R)
      (plays : PlaysLines m turn.caller turn.done (e.front old).lanes (e.front old) (e.front was) rs)
      (same : (e.front was).lanes ≡ (e.front old).lanes) (fated : length (e.front was).known ≡ length (e.front was).seen)
      (at : done ≡ turn.done + length rs)
      (vain : HasTriedInVain (stretch e engine m turn old was rs) before) where
    abbrev pub batch : Turn
    batch = record { caller = turn.caller; done = done; attempts = attempts }

    -- conflicts in a row go on from batch to batch
    pub vain-then : (conflicts : ℕ) → HasTriedSince (stretch e engine m batch was new ss) before conflicts
        → HasTriedInVain (stretch e engine m turn old new (rs ++ ss)) conflicts
    vain-then conflicts row = elim row [
      | inl none ↦
          let line : turn.done + length rs + 1 ≡ turn.done + length (rs ++ ss) + 1 =
          omega (arith, length-append rs ss, ap length none.none) in
          let next : done + 1 ≡ turn.done + length (rs ++ ss) + 1 =
          omega (arith, at, length-append rs ss, ap length none.none) in
          record {
            point = vain.point;
            of = vain.of;
            played = rw (none.none, append-nil) vain.played;
            after = vain.after ++ none.after;
            count = omega (arith, length-append vain.after none.after, vain.count, none.count);
            each = conflicts-then e engine (tag_of turn.caller (turn.done + length (rs ++ ss) + 1)) vain.point vain.after
                was none.after new
                (subst (λ l. AllStopByConflict e engine (tag_of turn.caller l) vain.point vain.after was) line vain.each)
                (subst (λ l. AllStopByConflict e engine (tag_of turn.caller l) was none.after new) next none.each);
          }
      | inr some ↦
          let next : done + length ss + 1 ≡ turn.done + length (rs ++ ss) + 1 =
          omega (arith, at, length-append rs ss) in
          record {
            point = some.point;
            of = some.of;
            played = plays-then m turn.caller turn.done done (e.front old) (e.front was) (e.front some.point) rs ss plays
                same some.played fated at;
            after = some.after;
            count = some.count;
            each = subst (λ l. AllStopByConflict e engine (tag_of turn.caller l) some.point some.after new) next some.each;
          }
    ]

    -- a turn ends by what its last batch ends by, unless the batch has no attempt left
    pub ends-then : (after : ℕ) (end : End) → (end ≡ Attempts → ⊥)
        → BatchEndsBy (stretch e engine m batch was new ss) before end after
        → EndsBy (stretch e engine m turn old new (rs ++ ss)) end
    ends-then after Lines other ends =
        let whole : done + length ss ≡ m.line_count turn.caller = ends in
        omega (arith, at, whole, length-append rs ss)
    ends-then after Attempts other ends = absurd (other refl)
    ends-then after (Limit limit) other ends = ends
    ends-then after Conflicts other ends = vain-then MOST_CONFLICTS ends

-- the counts of a batch that has ended
pub record HasCounted (turn : Turn) (before count played tried first last : ℕ) : Type 0 where
  pub within : turn.done + played ≤ count
  pub few : turn.done + played < 2 ^ 32
  pub attempts : tried ≤ turn.attempts
  pub begun : IsWithinAttempts turn played first last
  pub few_attempts : BeginsFew before first last played

-- by the counts before its last attempt, if that made any
pub has-counted : (turn : Turn) (before count played conflicts tried made now met begun was begun' : ℕ)
    → turn.done + played ≤ count → count < 2 ^ 32 → played ≤ tried → conflicts < MOST_CONFLICTS
    → before + tried ≤ MOST_CONFLICTS * played + conflicts → was ≡ begun + tried
    → now ≡ tried + made → made ≤ 1 → now ≤ turn.attempts → met ≤ now → (was ≤ begun') × (begun' ≤ was + made)
    → HasCounted turn before count played met begun begun'
has-counted turn before count played conflicts tried made now met begun was begun' within few each below most counted is
    one left seen more =
    record {
      within = omega arith;
      few = omega arith;
      attempts = omega arith;
      begun = record { each = omega (arith, more.0); most = omega (arith, more.1); few = omega (arith, more.1) };
      few_attempts = omega (arith, more.1);
    }

-- where each attempt played a line and the turn has no attempt left, it played as many lines as it can
pub most-played : (done played count tried most : ℕ) → done + played ≤ count → played ≡ tried → tried ≤ most
    → most ≤ tried → played ≡ min most (count - done)
most-played done played count tried most within steady few all = omega arith
