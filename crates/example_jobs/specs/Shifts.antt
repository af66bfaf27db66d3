-- What a shift of workers comes to.
use Rattle.std.specs.Prelude.{ℕ, Option, List}
use Rattle.md_history.specs.Front.{Front}
use Rattle.md_history.specs.Script.{Did, Follows}
use Rattle.md_history.specs.State.{State}
use Rattle.md_many.specs.Played.{EachLineOnce}
use Rattle.md_many_attempts.specs.ByCaller.{HasList}
use Rattle.md_many_attempts.specs.Meaning.{Meaning}
use Rattle.example_jobs.specs.declared.moves.Move.{Move}
use Rattle.example_jobs.specs.Jobs.{KeepsJobs}
use Rattle.example_jobs.specs.Moves.{FitsScheduler, script_of, body_of, line_count_of}

-- what the lines of a shift mean: the moves of so many workers
abbrev pub moves_of : ℕ → ℕ → Meaning Move (Option ℕ)
moves_of workers jobs = record {
  did = λ m acts r. Did (script_of m) acts r;
  makes = λ m acts. Follows (script_of m) acts;
  fits = λ m maps queues. FitsScheduler maps queues;
  callers = workers;
  line_count = line_count_of workers jobs;
  body_at = body_of workers jobs;
}

-- The moves of so many workers, as many as so many jobs ask for, were committed, each once, each worker's in order, and
-- with these replies; the fronts are legal from the opening, one after another; and the contents are what they leave, with
-- the jobs of the opening.
abbrev pub IsShift : ℕ → ℕ → State → List Front → List (List (Option ℕ)) → State → Type 0
IsShift workers jobs opening fronts replies contents =
    EachLineOnce (moves_of workers jobs) (HasList replies) (λ s tags. KeepsJobs opening s) opening fronts contents
