use Rattle.md_machine_schedules.proofs.RowsHold.{helped_row, moved_row, stopped_row}
use Rattle.md_machine_schedules.proofs.rows.worked_rows.Goals as goal

pub returns : goal.returns
returns g c = λ ins late fin mis. let M = g.T.Theory.meaning in (stopped_row M ins mis, helped_row M ins fin, moved_row M late mis)
