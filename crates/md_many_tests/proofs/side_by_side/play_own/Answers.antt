use Rattle.md_many_tests.proofs.side_by_side.play_own.Goals as goal

pub returns-clause-lines : goal.returns-clause-lines
returns-clause-lines g c = (_, c.attempt_lines.ensures.turn.lines)
