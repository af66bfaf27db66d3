use Rattle.md_store_counts.proofs.RowsHold.{worked_excess, worked_counts as counts_hold}
use Rattle.md_store_counts.proofs.counts.worked_counts.Goals as goal

pub returns-clause-few : goal.returns-clause-few
returns-clause-few c = counts_hold

pub returns-clause-excess : goal.returns-clause-excess
returns-clause-excess c = worked_excess
