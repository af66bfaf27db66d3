use Rattle.std.proofs.Common.{◌≡◌, ◌*◌, ◌^◌}
use Rattle.md_report.specs.Summary.{line_totals, totals_to, AreAtMost}
use Rattle.md_report.proofs.sums.script_totals.Given as goal

abbrev pub invariant-loop-before : goal.invariant-loop-before
invariant-loop-before l = record {
  sum : l.all ≡ totals_to l.before (line_totals l.scripts l.replies.replies l.caller);
  small : AreAtMost (l.before * 2 ^ 32) l.all;
}
