use Rattle.md_report.proofs.in_threads.+ranges.Given as goal

abbrev pub decreases-join+arg2 : goal.decreases-join+arg2
decreases-join+arg2 g l = l.low.count

abbrev pub decreases-join+arg3 : goal.decreases-join+arg3
decreases-join+arg3 g l = l.high.count

abbrev pub decreases-lines_in_ranges : goal.decreases-lines_in_ranges
decreases-lines_in_ranges g l = l.span.count
