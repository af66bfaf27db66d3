use Rattle.md_list_law.proofs.RowsHold.{worked_list}
use Rattle.md_list_law.proofs.one_list.worked_list.Goals as goal

pub returns : goal.returns
returns c = worked_list
