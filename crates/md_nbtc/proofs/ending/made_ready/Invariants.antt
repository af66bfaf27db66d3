use Rattle.md_nbtc_law.specs.Going.{IsGoing}
use Rattle.md_nbtc_sets.specs.Deciding.{state_by}
use Rattle.md_nbtc.proofs.ending.made_ready.Given as goal

abbrev pub ghosts-ready : goal.ghosts-ready
ghosts-ready g a = let v = a.about.value in record { by = IsGoing g.T.Theory.meaning (state_by a.field.now v.0.value v.1.now.value v.2.now v.3 v.4) }
