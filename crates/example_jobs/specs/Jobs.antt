-- Where jobs stand.
use Rattle.std.specs.Prelude.{◌≡◌, ◌≤◌, ◌+◌, ◌==◌, ℕ, List, ◌++◌, length, flat_map, if◌then◌else◌, nat_lt, sum_by}
use Rattle.std.specs.List.{count_by}
use Rattle.std.specs.FinMap as fin
use Rattle.md_history.specs.State.{State, map_at}
use Rattle.md_history.specs.Engine.{needed}
use Rattle.example_jobs.specs.declared.places.TheConstants.{MAPS, PRIORITIES, RUNNING, FINISHED}

-- the jobs of all places: those that wait in the queues, those that workers run, and those that are finished
abbrev pub jobs_in : State → List ℕ
jobs_in s = flat_map (λ q. q) s.queues ++ fin.values (map_at s RUNNING) ++ fin.keys (map_at s FINISHED)

-- in how many places a job stands
abbrev pub places : State → ℕ → ℕ
places s job = count_by (λ j. j == job) (jobs_in s)

-- So many jobs, numbered from 0, are held: there are the scheduler's maps and queues; each job stands in exactly one
-- place, and no other job stands in any; and the contents need a node for each queue and each job.
pub record Holds (jobs : ℕ) (s : State) : Type 0 where
  pub maps : length s.maps ≡ MAPS
  pub queues : length s.queues ≡ PRIORITIES
  pub each : (job : ℕ) → places s job ≡ (if nat_lt job jobs then 1 else 0)
  pub nodes : needed s ≡ PRIORITIES + jobs

-- The jobs of the opening, each in one place at most, are those of the state: whatever each job weighs, they weigh the
-- same.
pub record KeepsJobs (opening s : State) : Type 0 where
  pub maps : length opening.maps ≡ MAPS
  pub queues : length opening.queues ≡ PRIORITIES
  pub once : (job : ℕ) → places opening job ≤ 1
  pub same : (weigh : ℕ → ℕ) → sum_by weigh (jobs_in s) ≡ sum_by weigh (jobs_in opening)
