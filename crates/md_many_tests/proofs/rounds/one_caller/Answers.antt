use Rattle.md_many_tests.specs.declared.looks.Look.{Look}
use Rattle.md_many_tests.proofs.Looking.{look-laws}
use Rattle.md_many_tests.proofs.rounds.one_caller.Goals as goal

pub run_many-requires-clause-laws : goal.run_many-requires-clause-laws
run_many-requires-clause-laws g c κs within = look-laws (λ (b : Look). b.number) _ _ _ _
