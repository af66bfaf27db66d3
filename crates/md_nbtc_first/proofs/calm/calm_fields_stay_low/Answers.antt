use Rattle.md_nbtc_first.proofs.Low.{always_low}
use Rattle.md_nbtc_first.proofs.calm.calm_fields_stay_low.Goals as goal

pub returns : goal.returns
returns g c = always_low g.T.Theory.meaning
