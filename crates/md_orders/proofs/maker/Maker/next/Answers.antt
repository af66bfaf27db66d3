use Rattle.std.proofs.Common.{◌∙◌}
use Rattle.md_orders.proofs.Made.{five_more}
use Rattle.md_orders.proofs.maker.Maker.next.Goals as goal

pub invariant_of-self : goal.invariant_of-self
invariant_of-self c =
    let inside = c.self.inside in
    record {
      drawn = c.draws-draws.ensures.state ∙ five_more inside.number.value inside.made inside.generator.state c.self.invariant.drawn;
      callers_low = c.self.invariant.callers_low;
      callers_high = c.self.invariant.callers_high;
    }
