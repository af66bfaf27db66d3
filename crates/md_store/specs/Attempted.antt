-- What an attempt by a pass of a store tells.
use Rattle.std.specs.Prelude.{◌≡◌, ◌≤◌, ℕ, List}
use Rattle.md_history.specs.declared.acts.Act.{Act}
use Rattle.md_history.specs.declared.stops.Attempt.{Attempt}
use Rattle.md_history.specs.Attempt.{CountsAttempt, IfStopped, IsAtomic}
use Rattle.md_history.specs.Counts.{IsSmall}
use Rattle.md_history.specs.Engine.{IsNoConflict, bounds_in}
use Rattle.md_rule.specs.Views.{FieldView, PassState}
use Rattle.md_store_law.specs.Untouched.{IsUntouched}
use Rattle.md_store.specs.Causes.{StopsBy}
use Rattle.md_store_bodies.specs.Store.{HasAllLanes, IsFresh, IsPassOf, IsUnworn, MayStop, begun_by, front_in, limits_of, start_of}

-- An attempt of a body, which did and makes such acts, had this tag and this result; its pass stood so before and after.
-- It took effect as a whole or not at all, and is counted. If it stopped, it shows the cause, which is never `NoMemory`.
-- A pass that holds all lanes meets no conflict, and a fresh one no worn word, if nothing was changed in the words since
-- they were laid; then a small body is committed, if each lane has a try.
pub record IsAttempted {R : Type 0} (f : FieldView) (before after : PassState) (tag : ℕ) (did : List Act → R → Type 0)
    (makes : List Act → Type 0) (result : Attempt R) : Type 0 where
  pub atomic : IsAtomic did tag (start_of f) result (front_in before) (front_in after)
  pub of : IsPassOf f after
  pub begun : CountsAttempt result (begun_by before) (begun_by after)
  pub cause : IfStopped result (StopsBy f makes before after)
  pub may_stop : IfStopped result MayStop
  pub alone : HasAllLanes f before → IfStopped result IsNoConflict
  pub unworn : IsFresh before → IsUntouched f.origin.shape f.origin.words → IfStopped result IsUnworn
  pub small : IsFresh before → IsUntouched f.origin.shape f.origin.words → 1 ≤ (limits_of f.origin.shape).tries
      → IsSmall (bounds_in (limits_of f.origin.shape)) makes (start_of f) → IfStopped result (λ why. ⊥)
