use Rattle.md_program.proofs.play.open_for.Goals as goal

pub returns : goal.returns
returns c = assumption
