use Rattle.md_match.proofs.trading.Days.{matches-add-up}
use Rattle.md_match.proofs.laws.matches_add_up.Goals as goal

pub returns : goal.returns
returns c = matches-add-up
