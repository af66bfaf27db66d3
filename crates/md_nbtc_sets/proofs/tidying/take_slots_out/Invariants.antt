use Rattle.std.proofs.Common.{◌≡◌, length, take}
use Rattle.md_help.specs.After.{StandsInField}
use Rattle.md_rule.specs.Views.{IsOf}
use Rattle.md_nbtc_law.proofs.tidyings.Slots.{TakesTo}
use Rattle.md_nbtc_sets.proofs.tidying.take_slots_out.Given as goal

abbrev pub invariant-loop-i : goal.invariant-loop-i
invariant-loop-i g l = record {
  of : IsOf l.pass l.field;
  stands : StandsInField g.T.Theory.meaning l.field.origin l.pass.view;
  many : length l.lefts ≡ l.i;
  same : l.pass ≡ record l.fn.pass { view = l.pass.view };
  so_far : TakesTo l.field.origin.shape l.attempt (take l.i l.slots) l.lefts l.fn.pass.view l.pass.view;
}
