use Rattle.md_machine_schedules.proofs.RowsHold.{clearing_row}
use Rattle.md_machine_schedules.proofs.rows.clearing_row.Goals as goal

pub returns : goal.returns
returns g c = clearing_row g.T.Theory.meaning
