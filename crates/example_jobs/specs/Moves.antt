-- The moves of workers as scripts, and which move each of a worker's lines is.
use Rattle.std.specs.Prelude.{◌≤◌, ◌+◌, ◌*◌, ◌%◌, ◌==◌, ◌&&◌, ℕ, zero, suc, Option, Some, None, if◌then◌else◌, nat_le}
use Rattle.md_history.specs.declared.acts.Op.TheVariants.{Get, Insert, Remove, Enqueue, Dequeue}
use Rattle.md_history.specs.Script.{Script, done, call}
use Rattle.md_history.specs.Branches.{by_value}
use Rattle.md_history.specs.Counts.{Bounds, bounds_of_calls}
use Rattle.example_jobs.specs.declared.places.TheConstants.{MAPS, PRIORITIES, RUNNING, FINISHED, LOWEST}
use Rattle.example_jobs.specs.declared.moves.Step.{Step}
use Rattle.example_jobs.specs.declared.moves.Step.TheVariants.{Take, Finish, PutBack}
use Rattle.example_jobs.specs.declared.moves.Move.{Move}

-- the worker begins to run the first job of the first of so many queues, from a queue on, that has one
unfoldable pub start_first : ℕ → ℕ → ℕ → Script (Option ℕ)
start_first worker zero queue = done None
start_first worker (suc left) queue =
    call (Dequeue queue) (λ r. by_value r (start_first worker left (queue + 1)) (λ job.
    call (Insert RUNNING worker job) (λ _. done (Some job))))

-- a worker that runs no job takes one
abbrev pub take : ℕ → Script (Option ℕ)
take worker =
    call (Get RUNNING worker) (λ r. by_value r (start_first worker PRIORITIES 0) (λ _. done None))

-- the job that the worker runs is finished
abbrev pub finish : ℕ → Script (Option ℕ)
finish worker =
    call (Remove RUNNING worker) (λ r. by_value r (done None) (λ job.
    call (Insert FINISHED job worker) (λ _. done (Some job))))

-- the job that the worker runs waits again
abbrev pub put_back : ℕ → Script (Option ℕ)
put_back worker =
    call (Remove RUNNING worker) (λ r. by_value r (done None) (λ job.
    call (Enqueue LOWEST job) (λ _. done (Some job))))

-- the script of a worker's step
abbrev pub script_at : Step → ℕ → Script (Option ℕ)
script_at Take worker = take worker
script_at Finish worker = finish worker
script_at PutBack worker = put_back worker

-- the script of a move
abbrev pub script_of : Move → Script (Option ℕ)
script_of m = script_at m.step m.worker

-- there are the maps and queues of a scheduler
abbrev pub FitsScheduler : ℕ → ℕ → Type 0
FitsScheduler maps queues = (MAPS ≤ maps) × (PRIORITIES ≤ queues)

-- what a move reads, writes and takes at most: five calls, so 20 words, 35 words and 5 nodes
abbrev pub move_bounds : Bounds
move_bounds = bounds_of_calls 5

-- the step at a line: a worker takes a job and puts it back, and from then on takes and finishes
abbrev pub step_at : ℕ → Step
step_at line = if line % 2 == 1 then Take else (if line == 2 then PutBack else Finish)

-- the move of a worker at a line
abbrev pub move_at : ℕ → ℕ → Move
move_at worker line = record { worker = worker; step = step_at line }

-- how many lines a worker has, if there are so many workers and jobs
abbrev pub line_count_of : ℕ → ℕ → ℕ → ℕ
line_count_of workers jobs worker = if nat_le 1 worker && nat_le worker workers then 2 * jobs + 2 else 0

-- the move of a worker at a line, if there is one
abbrev pub body_of : ℕ → ℕ → ℕ → ℕ → Option Move
body_of workers jobs worker line =
    if nat_le 1 line && nat_le line (line_count_of workers jobs worker) then Some (move_at worker line) else None
