use Rattle.md_many_tests.specs.declared.looks.Look.{Look}
use Rattle.md_many_tests.proofs.Looking.{looks-lawful}
use Rattle.md_many_tests.proofs.rounds.list_played.Goals as goal

pub run_lines-requires-clause-laws : goal.run_lines-requires-clause-laws
run_lines-requires-clause-laws g c κs within = looks-lawful (λ (b : Look). b.number)
