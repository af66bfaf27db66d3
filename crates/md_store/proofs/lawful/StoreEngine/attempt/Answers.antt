use Rattle.std.proofs.Common.{ℕ, length, subst}
use Rattle.md_store_bodies.specs.Store.{start_of}
use Rattle.md_store.proofs.Numbers.{count_of_maps, count_of_queues}
use Rattle.md_store.proofs.lawful.StoreEngine.attempt.Goals as goal

pub attempt_in-requires-clause-fits : goal.attempt_in-requires-clause-fits
attempt_in-requires-clause-fits g c =
    let f = c.args.self.now in
    subst (λ (n : ℕ). g.B.Body.fits c.args.body.now n f.origin.shape.queues) (count_of_maps f)
    (subst (λ (n : ℕ). g.B.Body.fits c.args.body.now (length (start_of f).maps) n) (count_of_queues f) c.requires.fits)
