-- Moves are lawful bodies: none loses or doubles a job.
use Rattle.std.proofs.Common.{◌≡◌, ◌≤◌, ◌+◌, ◌==◌, ℕ, zero, suc, cond, Option, None, List, [], ◌∷◌, ◌++◌, length, refl, sym, ◌∙◌, arith}
use Rattle.std.specs.Prelude.{sum_by, flat_map, slice_get}
use Rattle.std.specs.FinMap as fin
use Rattle.std.proofs.lemmas.List.Sums.{sum_by-append}
use Rattle.md_history.specs.declared.acts.Op.TheVariants.{Insert, Remove, Dequeue}
use Rattle.md_history.specs.State.{State, Table, HaveSameNumbers, map_at, queue_at, after}
use Rattle.md_history.specs.Script.{Follows, Did}
use Rattle.md_history.specs.Branches.{value_in}
use Rattle.md_history.proofs.Branching.{by_option-each}
use Rattle.md_history.proofs.Plays.{PlayLeaves}
use Rattle.md_history.proofs.FewCalls.{MakesAtMost}
use Rattle.md_many.specs.Laws.{AreLawfulBodies}
use Rattle.md_many.proofs.Bodies.{StaysGood, leaves-option, scripts-lawful}
use Rattle.md_many.proofs.Moving.{Things, HaveMoved, weights_of, is, none-moved, moved-needed, pair-taken, no-pair, value-taken, no-value, pair-put, value-put, not-there}
use Rattle.md_many.proofs.Weighing.{weight, weigh-part, weight-queues}
use Rattle.example_jobs.specs.declared.moves.Step.{Step}
use Rattle.example_jobs.specs.declared.moves.Step.TheVariants.{Take, Finish, PutBack}
use Rattle.example_jobs.specs.declared.places.TheConstants.{MAPS, PRIORITIES, RUNNING, FINISHED, LOWEST}
use Rattle.example_jobs.specs.Moves.{FitsScheduler, start_first, script_at, script_of, move_bounds}
use Rattle.example_jobs.specs.Jobs.{jobs_in, KeepsJobs}

-- which job a pair holds, as its value if it runs, and as its key if it is finished; and a value of a queue is one
abbrev pub jobs : Things
jobs = record { in_pair = λ m e. cond (m == RUNNING) e.1 e.0; in_value = λ q job. job }

pub by-place : (f : ℕ → ℕ) (s : State) → length s.maps ≡ MAPS → sum_by f (jobs_in s) ≡ weight (weights_of jobs f) s
by-place f s two = each s.maps two
  where
    each : (ms : List Table) → length ms ≡ MAPS → let t : State = record { maps = ms; queues = s.queues } in
        sum_by f (jobs_in t) ≡ weight (weights_of jobs f) t
    each [] two = absurd (omega (arith, two))
    each (a ∷ []) two = absurd (omega (arith, two))
    each (a ∷ b ∷ []) two =
        let waiting = flat_map (λ q. q) s.queues in
        omega (
          arith,
          sum_by-append f (waiting ++ fin.values a) (fin.keys b),
          sum_by-append f waiting (fin.values a),
          weight-queues f s.queues,
          weigh-part f (λ e. e.1) a,
          weigh-part f (λ e. e.0) b,
        )
    each (a ∷ b ∷ c ∷ ms) two = absurd (omega (arith, two))

module _ (opening s : State) (good : KeepsJobs opening s) (like : HaveSameNumbers s opening) where
  abbrev Moved : State → List ℕ → Type 0
  Moved t out = HaveMoved jobs s t out

  abbrev Stays : State → Option ℕ → Type 0
  Stays t r = Moved t []

  abbrev runs : State → ℕ → Option ℕ
  runs t worker = fin.get (map_at t RUNNING) worker

  maps : length s.maps ≡ MAPS
  maps = like.maps ∙ good.maps

  queues : length s.queues ≡ PRIORITIES
  queues = like.queues ∙ good.queues

  -- the job of a worker is finished, since it wasn't finished before: it stood in one place
  finished : (t : State) (job worker : ℕ) → Moved t (job ∷ []) → Moved (after t (Insert FINISHED job worker)) []
  finished t job worker m =
      let once : weight (weights_of jobs (is job)) s ≤ 1 =
      omega (arith, by-place (is job) s maps, good.same (is job), good.once job) in
      pair-put jobs s t job [] m FINISHED job worker refl (omega (arith, maps))
      (not-there jobs s t job [] m FINISHED job (λ v. refl) once)

  first-stays : (worker left queue : ℕ) (t : State) → Moved t [] → runs t worker ≡ None
      → PlayLeaves Stays (start_first worker left queue) t
  unfolding start_first
  first-stays worker zero queue t m idle = m
  first-stays worker (suc left) queue t m idle =
      leaves-option Stays (slice_get (queue_at t queue) 0) (start_first worker left (queue + 1)) _ (after t (Dequeue queue))
      (λ none. first-stays worker left (queue + 1) (after t (Dequeue queue)) (no-value jobs s t [] m queue none) idle)
      (λ job some. pair-put jobs s (after t (Dequeue queue)) job [] (value-taken jobs s t [] m queue job some)
      RUNNING worker job refl (omega (arith, maps)) idle)

  -- no move loses or doubles a job
  move-stays : (step : Step) (worker : ℕ) → PlayLeaves Stays (script_at step worker) s
  move-stays Take worker = leaves-option Stays (runs s worker) (start_first worker PRIORITIES 0) _ s
      (first-stays worker PRIORITIES 0 s (none-moved jobs s)) (λ job some. none-moved jobs s)
  move-stays Finish worker = leaves-option Stays (runs s worker) _ _ (after s (Remove RUNNING worker))
      (no-pair jobs s s [] (none-moved jobs s) RUNNING worker)
      (λ job some. finished (after s (Remove RUNNING worker)) job worker
      (pair-taken jobs s s [] (none-moved jobs s) RUNNING worker job some))
  move-stays PutBack worker = leaves-option Stays (runs s worker) _ _ (after s (Remove RUNNING worker))
      (no-pair jobs s s [] (none-moved jobs s) RUNNING worker)
      (λ job some. value-put jobs s (after s (Remove RUNNING worker)) job []
      (pair-taken jobs s s [] (none-moved jobs s) RUNNING worker job some) LOWEST job refl (omega (arith, queues)))

  -- the jobs of what a move leaves
  left-good : (t : State) → Moved t [] → StaysGood KeepsJobs 0 opening s t
  left-good t m = record {
    good = record {
      maps = good.maps;
      queues = good.queues;
      once = good.once;
      same = λ f. by-place f t (m.numbers.maps ∙ maps) ∙ omega (arith, m.same f) ∙ sym (by-place f s maps) ∙ good.same f;
    };
    need = omega (arith, moved-needed jobs s t m);
  }

-- every move makes few calls
first-few : (worker left queue : ℕ) → MakesAtMost (suc left) (start_first worker left queue)
unfolding start_first
first-few worker zero queue = tt
first-few worker (suc left) queue = λ r. by_option-each (MakesAtMost (suc left)) (value_in r) (start_first worker left (queue + 1)) _
    (first-few worker left (queue + 1)) (λ job _. tt)

move-few : (step : Step) (worker : ℕ) → MakesAtMost 5 (script_at step worker)
move-few Take worker = λ r. by_option-each (MakesAtMost 4) (value_in r) _ _ (first-few worker PRIORITIES 0) (λ job. tt)
move-few Finish worker = λ r. by_option-each (MakesAtMost 4) (value_in r) _ _ tt (λ job _. tt)
move-few PutBack worker = λ r. by_option-each (MakesAtMost 4) (value_in r) _ _ tt (λ job _. tt)

pub moves-lawful : AreLawfulBodies (λ m acts r. Did (script_of m) acts r) (λ m acts. Follows (script_of m) acts)
    (λ m maps queues. FitsScheduler maps queues) KeepsJobs move_bounds 0
moves-lawful = scripts-lawful script_of (λ m maps queues. FitsScheduler maps queues) KeepsJobs 5 0
    (λ m. move-few m.step m.worker)
    (λ m opening s same good. left-good opening s good same _ (move-stays opening s good same m.step m.worker))
    (λ m opening good. (omega (arith, good.maps), omega (arith, good.queues)))
