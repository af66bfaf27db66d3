use Rattle.md_history.specs.Plain.{IsPassOf}
use Rattle.md_orders_tests.proofs.tests.book.play_rows.Given as goal

abbrev pub invariant-loop-line : goal.invariant-loop-line
invariant-loop-line g l = IsPassOf l.store l.pass
