use Rattle.std.proofs.Common.{◌∙◌, sym}
use Rattle.md_orders.proofs.Made.{state_none}
use Rattle.md_orders.proofs.maker.Maker.new.Goals as goal

pub invariant_of-result : goal.invariant_of-result
invariant_of-result c = record {
  drawn = c.new.ensures ∙ sym c.of.ensures ∙ state_none c.of.result.value;
  callers_low = c.requires.callers.0;
  callers_high = c.requires.callers.1;
}
