-- The slots of present attempts name their words and their old contents: by the installs of present attempts.
use Rattle.md_machine.specs.Machine.{Machine, shape_of}
use Rattle.md_machine.specs.clauses.slots.Slots.{SlotsStand}
use Rattle.md_machine.proofs.clauses.slots.Installs.{InstallsKept}

pub slots-kept : (m : Machine) → InstallsKept (shape_of m) m.words m.installs m.passes → SlotsStand (shape_of m) m.words m.installs
slots-kept m k i c = (k.fits i c).slot
