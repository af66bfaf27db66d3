use Rattle.md_match.proofs.steps.TheBook.{matches-are-small}
use Rattle.md_match.proofs.laws.matches_are_small.Goals as goal

pub returns : goal.returns
returns c = matches-are-small
