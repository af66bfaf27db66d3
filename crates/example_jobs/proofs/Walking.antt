-- How a worker that looks for a job goes on along its script.
use Rattle.std.proofs.Common.{◌≡◌, ◌<◌, ◌≤◌, ◌+◌, ◌-◌, ℕ, suc, Option, Some, None, List, ap, arith}
use Rattle.md_history.specs.declared.acts.Act.{Act}
use Rattle.md_history.specs.declared.acts.Op.TheVariants.{Dequeue, Insert}
use Rattle.md_history.specs.Script.{Script, done, call}
use Rattle.md_history.specs.ScriptLaws.{At, at-rest}
use Rattle.md_history.specs.Branches.{by_value}
use Rattle.example_jobs.specs.declared.places.TheConstants.{PRIORITIES, RUNNING}
use Rattle.example_jobs.specs.Moves.{start_first}

first-more : (worker n m queue : ℕ) → n ≡ suc m → start_first worker n queue
    ≡ call (Dequeue queue) (λ r. by_value r (start_first worker m (queue + 1)) (λ job.
    call (Insert RUNNING worker job) (λ _. done (Some job))))
unfolding start_first
first-more worker n m queue e = ap (λ k. start_first worker k queue) e

first-last : (worker n queue : ℕ) → n ≡ 0 → start_first worker n queue ≡ done None
unfolding start_first
first-last worker n queue e = ap (λ k. start_first worker k queue) e

module _ {s : Script (Option ℕ)} {from acts : List Act} (worker queue : ℕ)
    (at : At s from acts (start_first worker (PRIORITIES - queue) queue))
  where
    -- a queue is left to be asked
    pub more-left : queue < PRIORITIES → At s from acts (call (Dequeue queue) (λ r.
        by_value r (start_first worker (PRIORITIES - (queue + 1)) (queue + 1)) (λ job.
        call (Insert RUNNING worker job) (λ _. done (Some job)))))
    more-left below = at-rest at (first-more worker (PRIORITIES - queue) (PRIORITIES - (queue + 1)) queue (omega (arith, below)))

    -- none is left
    pub none-left : PRIORITIES ≤ queue → At s from acts (done None)
    none-left past = at-rest at (first-last worker (PRIORITIES - queue) queue (omega (arith, past)))
