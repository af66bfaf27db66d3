use Rattle.md_orders_tests.proofs.Ones.{AreOnes}
use Rattle.md_orders_tests.proofs.tests.reports.fill_with.Given as goal

abbrev pub invariant-loop-place : goal.invariant-loop-place
invariant-loop-place l = AreOnes l.place l.parts
