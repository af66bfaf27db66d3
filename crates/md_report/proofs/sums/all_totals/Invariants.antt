use Rattle.std.proofs.Common.{◌≡◌, ◌*◌, ◌^◌}
use Rattle.md_report.specs.Summary.{script_totals, totals_to, AreAtMost}
use Rattle.md_report.proofs.sums.all_totals.Given as goal

abbrev pub invariant-loop-before : goal.invariant-loop-before
invariant-loop-before l = record {
  sum : l.all ≡ totals_to l.before (script_totals l.scripts l.replies.replies);
  small : AreAtMost (l.before * 2 ^ 64) l.all;
}
