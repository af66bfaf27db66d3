use Rattle.md_history.proofs.engines.pass_is_legal.Goals as goal

pub returns : goal.returns
returns g c = (g.met.E.Engine g.world.𝓛 g.world.𝓜 g.world.𝓡 ((λ s x. x), (λ x. x), (λ x. x), λ x. x)).of_is c.args.engine.now c.args.pass.now c.requires
