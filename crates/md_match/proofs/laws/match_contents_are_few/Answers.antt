use Rattle.md_match.proofs.steps.Room.{contents-are-few}
use Rattle.md_match.proofs.laws.match_contents_are_few.Goals as goal

pub returns : goal.returns
returns c = contents-are-few
