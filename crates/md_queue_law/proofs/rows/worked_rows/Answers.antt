use Rattle.md_queue_law.proofs.RowsHold.{worked_rows_hold}
use Rattle.md_queue_law.proofs.rows.worked_rows.Goals as goal

pub returns : goal.returns
returns c = worked_rows_hold
