-- The statuses tell the fates: by the entries of present attempts, and by those of past ones.
use Rattle.md_machine.specs.Machine.{Machine, shape_of}
use Rattle.md_machine.specs.clauses.entries.Fates.{FatesByStatuses, PastKnown}
use Rattle.md_machine.proofs.clauses.entries.EntriesFit.{EntriesFit}
use Rattle.md_machine.proofs.clauses.entries.Past.{PastDecided, fates_told}

pub fates-kept : (m : Machine) → EntriesFit (shape_of m) m.words m.history m.fates → PastDecided (shape_of m) m.words m.history m.fates
    → PastKnown (shape_of m) m.words m.history m.passes → FatesByStatuses m
fates-kept m entries past known = record { told = fates_told (shape_of m) m.words m.history m.fates entries past; past = known }
