-- How many jobs are held: at first, when a job more waits, and after a shift.
use Rattle.std.proofs.Common.{◌≡◌, ◌<◌, ◌≤◌, ◌+◌, ℕ, refl, sym, ap, subst, ◌∙◌, arith}
use Rattle.std.proofs.lemmas.Bool.Decides.{nat_tests}
use Rattle.md_history.specs.declared.acts.Op.TheVariants.{Enqueue}
use Rattle.md_history.specs.State.{State, HaveSameNumbers, empty_state, after}
use Rattle.md_history.proofs.Runs.{length-queues}
use Rattle.md_many.proofs.Moving.{weights_of, is}
use Rattle.md_many.proofs.Weighing.{weight-enqueue, weight-empty, needed-weight}
use Rattle.example_jobs.specs.declared.places.TheConstants.{MAPS, PRIORITIES}
use Rattle.example_jobs.specs.Jobs.{places, Holds, KeepsJobs}
use Rattle.example_jobs.proofs.Laws.{jobs, by-place}

-- at first no job waits
pub holds-none : Holds 0 (empty_state MAPS PRIORITIES)
holds-none =
    let nothing = λ (f : ℕ → ℕ). weight-empty (weights_of jobs f) MAPS PRIORITIES in
    record {
      maps = refl;
      queues = refl;
      each = λ job.
          let none : places (empty_state MAPS PRIORITIES) job ≡ 0 =
          omega (arith, by-place (is job) (empty_state MAPS PRIORITIES) refl, nothing (is job)) in
          none ∙ grind (arith, nat_tests);
      nodes = needed-weight (weights_of jobs (λ _. 1)) (empty_state MAPS PRIORITIES) (λ m e. refl) (λ q v. refl) ∙ omega (arith, nothing (λ _. 1));
    }

-- the next job waits, too
pub holds-more : (n q : ℕ) (s : State) → Holds n s → q < PRIORITIES → Holds (n + 1) (after s (Enqueue q n))
holds-more n q s holds there =
    let t = after s (Enqueue q n) in
    record {
      maps = holds.maps;
      queues = length-queues s (Enqueue q n) ∙ holds.queues;
      each = λ job.
          let more : places t job ≡ places s job + is job n = omega (
            arith,
            by-place (is job) s holds.maps,
            by-place (is job) t holds.maps,
            weight-enqueue (weights_of jobs (is job)) s q n (omega (arith, there, holds.queues)),
          ) in
          more ∙ ap (λ k. k + is job n) (holds.each job) ∙ grind (arith, nat_tests);
      nodes = omega (
        arith,
        holds.nodes,
        needed-weight (weights_of jobs (λ _. 1)) s (λ m e. refl) (λ q v. refl),
        needed-weight (weights_of jobs (λ _. 1)) t (λ m e. refl) (λ q v. refl),
        weight-enqueue (weights_of jobs (λ _. 1)) s q n (omega (arith, there, holds.queues)),
        length-queues s (Enqueue q n),
      );
    }

-- a shift may begin with the jobs
pub keeps-first : (n : ℕ) (s : State) → Holds n s → KeepsJobs s s
keeps-first n s holds = record {
  maps = holds.maps;
  queues = holds.queues;
  once = λ job. subst (λ k. k ≤ 1) (sym (holds.each job)) (grind (arith, nat_tests));
  same = λ f. refl;
}

-- and leaves them
pub holds-kept : (n : ℕ) (s t : State) → Holds n s → HaveSameNumbers t s → KeepsJobs s t → Holds n t
holds-kept n s t holds numbers kept = record {
  maps = numbers.maps ∙ holds.maps;
  queues = numbers.queues ∙ holds.queues;
  each = λ job. let same : places t job ≡ places s job = omega (arith, kept.same (is job)) in same ∙ holds.each job;
  nodes = omega (
    arith,
    holds.nodes,
    numbers.queues,
    kept.same (λ _. 1),
    by-place (λ _. 1) s holds.maps,
    by-place (λ _. 1) t (numbers.maps ∙ holds.maps),
    needed-weight (weights_of jobs (λ _. 1)) s (λ m e. refl) (λ q v. refl),
    needed-weight (weights_of jobs (λ _. 1)) t (λ m e. refl) (λ q v. refl),
  );
}
