use Rattle.std.proofs.Common.{◌≡◌}
use Rattle.md_help.specs.After.{StandsInField}
use Rattle.md_rule.specs.Views.{IsOf}
use Rattle.md_nbtc_law.proofs.withdrawals.AllOut.{TakesFirst}
use Rattle.md_nbtc_sets.proofs.taking_out.take_writes_out.Given as goal

abbrev pub invariant-loop-i : goal.invariant-loop-i
invariant-loop-i g l = record {
  of : IsOf l.pass l.field;
  stands : StandsInField g.T.Theory.meaning l.field.origin l.pass.view;
  same : l.pass ≡ record l.fn.pass { view = l.pass.view };
  so_far : TakesFirst g.T.Theory.meaning l.field.origin l.attempt l.fate l.slots l.fn.pass.view l.pass.view l.i;
}
