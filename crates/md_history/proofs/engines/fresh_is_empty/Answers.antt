use Rattle.md_history.proofs.engines.fresh_is_empty.Goals as goal

pub returns : goal.returns
returns g c =
    let law = (g.met.E.Engine g.world.𝓛 g.world.𝓜 g.world.𝓡 ((λ s x. x), (λ x. x), (λ x. x), λ x. x)).fresh_is c.args.engine.now c.args.pass.now c.requires.of c.requires.fresh in
    record { front = law.0; begun = law.1 }
