-- The installs of a present attempt are steps of the pass that holds its lane.
use Rattle.std.proofs.Common.{refl, sym}
use Rattle.md_machine.specs.declared.step.Step.{Step}
use Rattle.md_machine.proofs.clauses.slots.Installs.{InstallsKept}
use Rattle.md_machine.proofs.events.InstallSteps.{InstallStep}
use Rattle.md_machine.specs.Machine.{Install, Machine, shape_of}
use Rattle.md_machine.specs.clauses.slots.OwnInstalls.{OwnInstallsShown, WonIt}

-- the step of an install won it
pub step_won : (i : Install) (s : Step) → InstallStep i s → WonIt i s
step_won i s step = (
  record { kind = step.kind; attempt = step.attempt; won = step.won },
  record { attempt = refl; there = sym step.there; old = sym step.before; left = step.after },
)

pub own_installs-kept : (m : Machine) → InstallsKept (shape_of m) m.words m.installs m.passes → OwnInstallsShown m
own_installs-kept m k i c now pass p at own =
    let made = k.held i c now pass p at own in
    (made.0, made.1, (made.2.0, made.2.1, step_won i made.2.0 made.2.2))
