use Rattle.md_match.proofs.sweeps.Uncrossed.{stays-uncrossed}
use Rattle.md_match.proofs.laws.matches_stay_uncrossed.Goals as goal

pub returns : goal.returns
returns c = stays-uncrossed
