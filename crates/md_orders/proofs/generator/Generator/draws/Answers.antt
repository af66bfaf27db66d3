use Rattle.md_orders.proofs.Made.{five_draws}
use Rattle.md_orders.proofs.generator.Generator.draws.Goals as goal

pub returns-clause-state : goal.returns-clause-state
returns-clause-state c =
    (five_draws _ _ _ _ _ _ _ _ _ _ _ c.draw.ensures.state c.draw-2.ensures.state c.draw-3.ensures.state c.draw-4.ensures.state c.draw-5.ensures.state
    c.draw.ensures.draw c.draw-2.ensures.draw c.draw-3.ensures.draw c.draw-4.ensures.draw c.draw-5.ensures.draw).0

pub returns-clause-draws : goal.returns-clause-draws
returns-clause-draws c =
    (five_draws _ _ _ _ _ _ _ _ _ _ _ c.draw.ensures.state c.draw-2.ensures.state c.draw-3.ensures.state c.draw-4.ensures.state c.draw-5.ensures.state
    c.draw.ensures.draw c.draw-2.ensures.draw c.draw-3.ensures.draw c.draw-4.ensures.draw c.draw-5.ensures.draw).1
