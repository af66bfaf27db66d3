use Rattle.md_match.proofs.sweeps.Uncrossed.{never-crossed}
use Rattle.md_match.proofs.laws.never_crossed.Goals as goal

pub returns : goal.returns
returns c = never-crossed
