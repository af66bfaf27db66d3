use Rattle.md_program.proofs.report.fn.tell_and_close.join+arg2.Goals as goal

pub returns : goal.returns
returns g c = assumption
