use Rattle.md_history.specs.Plain.{IsPassOf}
use Rattle.md_orders_tests.proofs.tests.matching.attempt_all.Given as goal

abbrev pub invariant-loop-command : goal.invariant-loop-command
invariant-loop-command g l = IsPassOf l.store l.pass
