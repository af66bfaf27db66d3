use Rattle.md_hash_law.proofs.RowsHold.{worked_tables}
use Rattle.md_hash_law.proofs.hash_table.worked_tables.Goals as goal

pub returns : goal.returns
returns c = worked_tables
