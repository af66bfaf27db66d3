use Rattle.md_report.proofs.in_threads.+halves.Given as goal

abbrev pub decreases-join+arg2 : goal.decreases-join+arg2
decreases-join+arg2 g l = l.low.count

abbrev pub decreases-join+arg3 : goal.decreases-join+arg3
decreases-join+arg3 g l = l.high.count

abbrev pub decreases-lines_of_callers : goal.decreases-lines_of_callers
decreases-lines_of_callers g l = l.callers.count
