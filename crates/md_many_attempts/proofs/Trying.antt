-- One attempt more of a batch.
use Rattle.std.proofs.Common.{◌≡◌, ◌+◌, ◌*◌, ◌<◌, ◌≤◌, ℕ, Option, Some, None, Result, Ok, Err, List, [], ◌∷◌, ◌++◌, length, arith, refl, sym, ap, ◌∙◌, subst, inl, inr}
use Rattle.std.specs.Prelude.{IfSome, IfNone, OnErr}
use Rattle.std.proofs.lemmas.Bool.{cases_eq}
use Rattle.std.proofs.lemmas.List.{length_push}
use Rattle.md_history.specs.declared.engines.Engine.{Ghosts as EngineWords}
use Rattle.md_history.specs.declared.stops.Shown.{Shown}
use Rattle.md_history.specs.declared.stops.Stop.{Stop}
use Rattle.md_history.specs.declared.stops.Stop.TheVariants.{Conflict, NoMemory}
use Rattle.md_history.specs.Attempt.{Stops}
use Rattle.md_many_attempts.specs.declared.attempts.Turn.{Turn}
use Rattle.md_many_attempts.specs.declared.attempts.End.{End}
use Rattle.md_many_attempts.specs.declared.attempts.End.TheVariants.{Lines, Attempts, Limit, Conflicts}
use Rattle.md_many_attempts.specs.declared.attempts.TheConstants.{MOST_CONFLICTS}
use Rattle.md_many_attempts.specs.Batches.{BatchEndsBy, HasTriedSince}
use Rattle.md_many_attempts.specs.Lines.{PlaysLines}
use Rattle.md_many_attempts.specs.Meaning.{Meaning}
use Rattle.md_many_attempts.specs.Steps.{EndsOn, StopsAt}
use Rattle.md_many_attempts.specs.Tags.{tag_of}
use Rattle.md_many_attempts.specs.Turns.{StopsByConflict, stretch}
use Rattle.md_many_attempts.proofs.Ending.{conflicts-more}
use Rattle.md_many_attempts.proofs.Retrying.{no_conflict, no_limit, conflict_counted}

-- what is so of each line up to one, and of the next
pub one_more : (P : ℕ → Type 0) (done played : ℕ) → ((line : ℕ) → done < line → line ≤ played → P line) → P (played + 1)
    → (more : ℕ) → more ≡ played + 1 → (line : ℕ) → done < line → line ≤ more → P line
one_more P done played each next more is line after before = elim (cases_eq line (played + 1)) [
  | inl same ↦ subst P (sym same) next
  | inr other ↦ each line after (omega arith)
]

-- what is said of `None` and of `Some`
pub if-none : {A : Type 0} (P : Type 0) {o : Option A} → o ≡ None → IfNone o P → P
if-none P is h = subst (λ o. IfNone o P) is h

pub if-some : {A : Type 0} (P : A → Type 0) {o : Option A} {x : A} → o ≡ Some x → IfSome o P → P x
if-some P is h = subst (λ o. IfSome o P) is h

-- what is so anyway is so of an error
pub on-err : {T E : Type 0} (r : Result T E) (P : Type 0) → P → OnErr r P
on-err (Ok x) P so = tt
on-err (Err e) P so = so

-- a turn isn't ended for a reason if memory ran out
pub other-end : (s : Stop) (conflicts : ℕ) (end : End) → EndsOn s conflicts end → s ≡ NoMemory → ⊥
other-end s conflicts Lines on none = on
other-end s conflicts Attempts on none = on
other-end s conflicts (Limit limit) on none = no_limit (sym on ∙ none)
other-end s conflicts Conflicts on none = no_conflict (sym on.0.1 ∙ none)

-- what follows of numbers from a contradiction: named, so that the check needn't write out the clause that asks for it
pub same-of : (n m : ℕ) → ⊥ → n ≡ m
same-of n m none = absurd none

pub some-of : (n : ℕ) → ⊥ → 1 ≤ n
some-of n none = absurd none

-- The counts of a batch after so many attempts, the last of which met so many conflicts in a row; so many came in a row
-- before it.
pub record HasTried (count done before lines conflicts tried first last : ℕ) : Type 0 where
  pub within : done + lines ≤ count
  pub few : lines ≤ tried
  pub most : before + tried ≤ MOST_CONFLICTS * lines + conflicts
  pub counted : last ≡ first + tried

module _ (count done before lines conflicts tried first last lines' conflicts' last' : ℕ) (few : lines ≤ tried)
    (below : conflicts < MOST_CONFLICTS) (most : before + tried ≤ MOST_CONFLICTS * lines + conflicts)
    (counted : last ≡ first + tried) where
  -- after an attempt that played the next line
  pub tried-line : last' ≡ last + 1 → lines' ≡ lines + 1 → conflicts' ≡ 0 → done + lines < count
      → HasTried count done before lines' conflicts' (tried + 1) first last'
  tried-line more another none inside = record {
    within = omega arith;
    few = omega arith;
    most = omega arith;
    counted = omega arith;
  }

  -- after one that met a conflict
  pub tried-vain : last' ≡ last + 1 → lines' ≡ lines → conflicts' ≡ conflicts + 1 → done + lines ≤ count
      → HasTried count done before lines' conflicts' (tried + 1) first last'
  tried-vain more none another inside = record {
    within = omega arith;
    few = omega arith;
    most = omega arith;
    counted = omega arith;
  }

-- an attempt at the line after so many met a conflict
pub by-conflict : {E P B R : Type 0} (e : EngineWords E P) (engine : E) (m : Meaning B R) (turn : Turn) (old new : P)
    (played : ℕ) (s : Stop) (line : ℕ) (shown : Shown) → s ≡ Conflict shown → line ≡ turn.done + played + 1
    → StopsAt e engine m (record { caller = turn.caller; line = line }) old new s
    → StopsByConflict e engine (tag_of turn.caller (turn.done + played + 1)) old new
by-conflict e engine m turn old new played s line shown met at stopped = record {
  shown = shown;
  may = subst (e.may_stop engine) met stopped.may;
  stops = subst (λ l. Stops (tag_of turn.caller l) (e.front old) (e.front new)) at stopped.stops;
  begun = conflict_counted s _ _ met stopped.counted;
}

module _ {E P B R : Type 0} (e : EngineWords E P) (engine : E) (m : Meaning B R) (turn : Turn) (before : ℕ)
    (old : P) where
  -- no attempt was made yet
  pub row-none : (replies : List R) → replies ≡ [] → HasTriedSince (stretch e engine m turn old old replies) before before
  row-none replies none = inl (record { none = none; after = []; count = omega arith; each = refl })

  -- an attempt more met a conflict
  pub row-more : (was new : P) (replies : List R) (conflicts conflicts' : ℕ)
      → HasTriedSince (stretch e engine m turn old was replies) before conflicts
      → StopsByConflict e engine (tag_of turn.caller (turn.done + length replies + 1)) was new
      → conflicts' ≡ conflicts + 1 → HasTriedSince (stretch e engine m turn old new replies) before conflicts'
  row-more was new replies conflicts conflicts' row one more = elim row [
    | inl none ↦
        let line : turn.done + length replies + 1 ≡ turn.done + 1 = omega (arith, ap length none.none) in
        inl (record {
          none = none.none;
          after = none.after ++ new ∷ [];
          count = omega (arith, length_push none.after new, none.count, more);
          each = conflicts-more e engine (tag_of turn.caller (turn.done + 1)) old none.after was new none.each
              (subst (λ l. StopsByConflict e engine (tag_of turn.caller l) was new) line one);
        })
    | inr some ↦ inr (record {
      point = some.point;
      of = some.of;
      played = some.played;
      after = some.after ++ new ∷ [];
      count = omega (arith, length_push some.after new, some.count, more);
      each = conflicts-more e engine (tag_of turn.caller (turn.done + length replies + 1)) some.point some.after was new
          some.each one;
    })
  ]

  -- an attempt played a line
  pub row-anew : (new : P) (replies : List R) (conflicts : ℕ) → e.of engine new
      → PlaysLines m turn.caller turn.done (e.front old).lanes (e.front old) (e.front new) replies
      → conflicts ≡ 0 → HasTriedSince (stretch e engine m turn old new replies) before conflicts
  row-anew new replies conflicts of played none =
      inr (record { point = new; of = of; played = played; after = []; count = sym none; each = refl })

  -- a stop that ends a batch
  pub ends-on : (was new : P) (replies : List R) (s : Stop) (end : End) (after conflicts line : ℕ)
      → HasTriedSince (stretch e engine m turn old was replies) before conflicts → EndsOn s conflicts end
      → line ≡ turn.done + length replies + 1
      → StopsAt e engine m (record { caller = turn.caller; line = line }) was new s
      → BatchEndsBy (stretch e engine m turn old new replies) before end after
  ends-on was new replies s Lines after conflicts line row on at stopped = absurd on
  ends-on was new replies s Attempts after conflicts line row on at stopped = absurd on
  ends-on was new replies s (Limit limit) after conflicts line row on at stopped =
      subst (e.may_stop engine) on stopped.may
  ends-on was new replies s Conflicts after conflicts line row on at stopped =
      row-more was new replies conflicts MOST_CONFLICTS row
      (by-conflict e engine m turn was new (length replies) s line on.0.0 on.0.1 at stopped) (sym on.1)
