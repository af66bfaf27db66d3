use Rattle.md_match.proofs.sweeps.WorkedDays.{are-worked-days}
use Rattle.md_match.proofs.laws.worked_days.Goals as goal

pub returns : goal.returns
returns c = are-worked-days
