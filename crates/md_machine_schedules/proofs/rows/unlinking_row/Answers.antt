use Rattle.md_machine_schedules.proofs.RowsHold.{unlinked_row}
use Rattle.md_machine_schedules.proofs.rows.unlinking_row.Goals as goal

pub returns : goal.returns
returns g c = unlinked_row g.T.Theory.meaning
