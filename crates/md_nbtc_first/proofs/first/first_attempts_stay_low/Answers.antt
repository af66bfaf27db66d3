use Rattle.md_nbtc_first.proofs.FirstAttempts.{first_stays_low}
use Rattle.md_nbtc_first.proofs.first.first_attempts_stay_low.Goals as goal

pub returns : goal.returns
returns g c = first_stays_low g.T.Theory.meaning
