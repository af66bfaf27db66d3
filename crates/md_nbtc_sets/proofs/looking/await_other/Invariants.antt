use Rattle.std.proofs.Common.{◌≡◌, ◌⊎◌, length}
use Rattle.md_help.specs.After.{StandsInField}
use Rattle.md_rule.specs.Views.{IsOf}
use Rattle.md_nbtc_law.specs.declared.seen.TheConstants.{LOOKS}
use Rattle.md_nbtc_law.specs.Looking.{LooksUntil, OnlyLooks}
use Rattle.md_nbtc_sets.proofs.looking.await_other.Given as goal

abbrev pub invariant-loop-i : goal.invariant-loop-i
invariant-loop-i g l = record {
  of : IsOf l.pass l.field;
  same : l.pass ≡ record l.fn.pass { view = l.pass.view };
  stands : StandsInField g.T.Theory.meaning l.field.origin l.pass.view;
  looks : (x : OnlyLooks l.field.origin.shape l.word l.fn.pass.view l.pass.view) × (length x.steps ≡ l.i);
  until : (l.i ≡ 0) ⊎ LooksUntil g.T.Theory.meaning l.field.origin l.word LOOKS l.last l.fn.pass.view l.pass.view;
}
