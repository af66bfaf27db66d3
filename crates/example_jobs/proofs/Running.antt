-- A store of a shift's shape has room for its jobs.
use Rattle.std.proofs.Common.{◌≤◌, ◌+◌, ℕ, arith}
use Rattle.md_words.specs.declared.shape.Shape.{Shape}
use Rattle.md_words.specs.Layout.{HasNumbers}
use Rattle.md_store.specs.Store.{room_of}
use Rattle.example_jobs.specs.declared.places.TheConstants.{MAPS, PRIORITIES, MAX_JOBS, MAX_WORKERS}
use Rattle.example_jobs.specs.declared.run.TheConstants.{NODES, TRIES, BUCKETS}

pub room-enough : (s : Shape) (workers jobs : ℕ)
    → HasNumbers s workers NODES (PRIORITIES + jobs) TRIES MAPS BUCKETS PRIORITIES → workers ≤ MAX_WORKERS
    → jobs ≤ MAX_JOBS → PRIORITIES + jobs ≤ room_of s
room-enough s workers jobs is few within = rw (is.0, is.1, is.4, is.5, is.6) (omega (arith, few, within))
