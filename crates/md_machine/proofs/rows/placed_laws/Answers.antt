use Rattle.md_machine.proofs.resolutions.Placing.{always_means, never_means}
use Rattle.md_machine.proofs.rows.placed_laws.Goals as goal

pub returns : goal.returns
returns c = record { always = always_means; never = never_means }
