use Rattle.std.proofs.Common.{ℕ, length, subst, sym}
use Rattle.md_rule.specs.Views.{FieldView}
use Rattle.md_store.specs.Store.{start_of}
use Rattle.md_store.proofs.Numbers.{count_of_maps, count_of_queues}
use Rattle.md_store_tests.proofs.tests.trials.running.run_bodies.Goals as goal

-- what is so of the numbers of a store's shape is so of what it starts with
of_start : (fits : ℕ → ℕ → Type 0) (f : FieldView) → fits f.origin.shape.maps f.origin.shape.queues
    → fits (length (start_of f).maps) (length (start_of f).queues)
of_start fits f of_shape =
    subst (λ (n : ℕ). fits n (length (start_of f).queues)) (sym (count_of_maps f))
    (subst (λ (n : ℕ). fits f.origin.shape.maps n) (sym (count_of_queues f)) of_shape)

pub attempt_until_committed-requires-clause-fits : goal.attempt_until_committed-requires-clause-fits
attempt_until_committed-requires-clause-fits g c κs within =
    of_start (g.B.Body.fits _) c.args.store.now (c.requires.fits _)
