-- How a loop over a list goes on along its script.
use Rattle.std.proofs.Common.{◌≡◌, ◌<◌, ◌≤◌, ◌+◌, ℕ, List, ◌∷◌, Option, drop, length, get_or, ap, add-one, drop-cons, drop_of_length-le}
use Rattle.md_history.specs.declared.acts.Act.{Act}
use Rattle.md_history.specs.declared.stops.Stop.{Stop}
use Rattle.md_history.specs.Calls.{Refusal, BrokeOff}
use Rattle.md_history.specs.Script.{Script, bind, Follows, Adds}
use Rattle.md_history.specs.ScriptLaws.{At, at-rest, at-part, at-broke_part, at-done}
use Rattle.md_history_loops.specs.Loops.{try_fold}

module _ {A R : Type 0} (step : A → R → Script R) (items : List A) (i : ℕ) (r : R)
    {s : Script R} {from acts : List Act} (at : At s from acts (try_fold step (drop i items) r))
  where
    -- the step of an item comes next
    next : (d : A) → i < length items → At s from acts
        (bind (step (get_or items i d) r) (λ r'. try_fold step (drop (i + 1) items) r'))
    next d below =
        let e : drop i items ≡ get_or items i d ∷ drop (i + 1) items = rw add-one (drop-cons items i d below) in
        at-rest at (ap (λ xs. try_fold step xs r) e)

    -- it was done, and the items after it are left
    pub at-step : (d : A) → i < length items → {acts' : List Act} {r' : R}
        → Adds (step (get_or items i d) r) r' acts acts'
        → At s from acts' (try_fold step (drop (i + 1) items) r')
    at-step d below adds = at-part (λ r'. try_fold step (drop (i + 1) items) r') (next d below) adds

    -- it broke off, and with it the whole
    pub at-broke_step : (d : A) → i < length items
        → {acts' : List Act} {stop' : Option Refusal} {why : Stop}
        → BrokeOff (Follows (step (get_or items i d) r)) why acts acts' stop'
        → BrokeOff (Follows s) why from acts' stop'
    at-broke_step d below broke = at-broke_part (λ r'. try_fold step (drop (i + 1) items) r') (next d below) broke

    -- no item is left
    pub at-end : length items ≤ i → Adds s r from acts
    at-end past = at-done (at-rest at (ap (λ xs. try_fold step xs r) (drop_of_length-le items {i = i} past)))
