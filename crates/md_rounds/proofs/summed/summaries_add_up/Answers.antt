use Rattle.md_rounds.proofs.Summaries.{summaries-add-up}
use Rattle.md_rounds.proofs.summed.summaries_add_up.Goals as goal

pub returns : goal.returns
returns c = summaries-add-up c.days_add_up.ensures
