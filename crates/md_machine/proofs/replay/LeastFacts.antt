-- The facts of the smallest resolution hold in every one.
use Rattle.std.proofs.Common.{◌≡◌, length}
use Rattle.md_machine.specs.Machine.{Machine}
use Rattle.md_machine.specs.Resolution.{least}
use Rattle.md_machine.specs.clauses.words.WasIn.{LeastFactsHold}
use Rattle.md_machine.proofs.replay.Rise.{FactsRise}
use Rattle.md_machine.proofs.resolutions.Placing.{least_resolves, least_within}

-- from `facts_rise`, since every resolution keeps what the smallest one does
pub least_facts-kept : (m : Machine) → length m.fates ≡ length m.history → FactsRise m → LeastFactsHold m
least_facts-kept m fated rise choice r = rise (least m.fates) choice (least_resolves m.history m.fates fated) r (least_within m.history m.fates choice r)
