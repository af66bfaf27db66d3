use Rattle.md_program_tests.proofs.tests.making.sums_in_turn.Goals.{in-Some+in-Committed, in-Some+in-Stopped, in_default}
use Rattle.md_program_tests.proofs.tests.making.sums_in_turn.Goals as goal

pub turns-preserved : goal.turns-preserved
turns-preserved c = elim c.match-command.branch [
  | in-Some+in-Committed w ↦ rw w.pass-is w.attempt.ensures.of
  | in-Some+in-Stopped w ↦ rw w.pass-is w.attempt.ensures.of
  | in_default w ↦ rw w.pass-is c.turns.invariant
]
