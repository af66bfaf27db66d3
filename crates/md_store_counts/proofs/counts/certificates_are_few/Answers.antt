use Rattle.md_store_counts.proofs.Recording.{recorded_are_few}
use Rattle.md_store_counts.proofs.Placing.{placed_are_counted}
use Rattle.md_store_counts.proofs.Writing.{tidied_are_few, written_are_few}
use Rattle.md_store_counts.proofs.counts.certificates_are_few.Goals as goal

pub returns-clause-placed : goal.returns-clause-placed
returns-clause-placed c = placed_are_counted

pub returns-clause-recorded : goal.returns-clause-recorded
returns-clause-recorded c = recorded_are_few

pub returns-clause-written : goal.returns-clause-written
returns-clause-written c = written_are_few

pub returns-clause-tidied : goal.returns-clause-tidied
returns-clause-tidied c = tidied_are_few
