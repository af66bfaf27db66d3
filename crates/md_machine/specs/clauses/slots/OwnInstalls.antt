-- Which installs the trail of a pass shows.
use Rattle.std.specs.Prelude.{ℕ, Contains}
use Rattle.md_machine.specs.declared.pass.PassView.{PassView}
use Rattle.md_machine.specs.declared.step.Step.{Step}
use Rattle.md_machine.specs.Machine.{Install, IsAt, Machine, shape_of, IsPresentIn}
use Rattle.md_machine.specs.Own.{HasDesc}
use Rattle.md_machine.specs.Trail.{SomeStepOf}
use Rattle.md_machine.specs.clauses.slots.WonInstalls.{IsInstallOf}
use Rattle.md_machine.specs.events.Start.{WonInstall}

-- the step won the install
abbrev pub WonIt : Install → Step → Type 0
WonIt i s = WonInstall i.attempt s × IsInstallOf i.attempt s i

-- the pass that holds the lane won each install of a present attempt, in whatever segment
abbrev pub OwnInstallsShown : Machine → Type 0
OwnInstallsShown m = (i : Install) → Contains m.installs i → IsPresentIn (shape_of m) m.words i.attempt → (pass : ℕ) (p : PassView)
    → IsAt m pass p → HasDesc (shape_of m) p i.attempt.desc → SomeStepOf p (WonIt i)
