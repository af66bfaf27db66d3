use Rattle.md_many.proofs.Reaching.{lines-lawful}
use Rattle.md_many.proofs.running_lines.run_lines.Goals as goal

pub run_many-requires-clause-laws : goal.run_many-requires-clause-laws
run_many-requires-clause-laws g c κs within = rw c.of.ensures
    (lines-lawful _ _ _ _ _ _ c.requires.laws _ _ _
    ((g.met.L.Lines g.world.𝓛 g.world.𝓜 g.world.𝓡 ((λ s x. x), (λ x. x), (λ x. x), λ x. x)).has_body c.args.lines.now)
    ((g.met.L.Lines g.world.𝓛 g.world.𝓜 g.world.𝓡 ((λ s x. x), (λ x. x), (λ x. x), λ x. x)).has_caller c.args.lines.now)
    _ c.requires.engine.good)
