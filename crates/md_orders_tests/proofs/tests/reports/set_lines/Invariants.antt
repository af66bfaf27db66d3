use Rattle.std.proofs.Common.{◌≡◌}
use Rattle.md_orders_tests.proofs.tests.reports.set_lines.Given as goal

abbrev pub invariant-lines : goal.invariant-lines
invariant-lines l = l.replies.scripts ≡ l.scripts
