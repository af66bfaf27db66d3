use Rattle.std.proofs.Common.{◌≡◌}
use Rattle.md_orders_tests.proofs.tests.reports.set_all.Given as goal

abbrev pub invariant-callers : goal.invariant-callers
invariant-callers l = l.replies.scripts ≡ l.scripts
