use Rattle.md_history.specs.Plain.{IsPassOf}
use Rattle.md_program_tests.proofs.tests.making.sums_in_turn.Given as goal

abbrev pub invariant-turns : goal.invariant-turns
invariant-turns l = IsPassOf l.store l.pass
