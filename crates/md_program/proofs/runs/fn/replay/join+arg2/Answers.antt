use Rattle.md_program.proofs.runs.fn.replay.join+arg2.Goals as goal

pub returns : goal.returns
returns g c = assumption
