-- Which installs the steps of passes show.
use Rattle.std.specs.Prelude.{◌≡◌, ℕ, List, Contains}
use Rattle.md_machine.specs.declared.attempt.AttemptId.{AttemptId}
use Rattle.md_machine.specs.declared.pass.PassView.{PassView}
use Rattle.md_machine.specs.declared.step.Step.{Step}
use Rattle.md_machine.specs.Installs.{spot_of_install}
use Rattle.md_machine.specs.Machine.{Install, IsAt, Machine}
use Rattle.md_machine.specs.Trail.{EveryStepOf}
use Rattle.md_machine.specs.events.Install.{installed_word}
use Rattle.md_machine.specs.events.Start.{WonInstall}

-- an install of an attempt is that of a step: the step found its old content in its word, and left its slot there
pub record IsInstallOf (a : AttemptId) (s : Step) (i : Install) : Type 0 where
  pub attempt : i.attempt ≡ a
  pub there : i.word ≡ s.word
  pub old : i.old ≡ s.before
  pub left : s.after ≡ installed_word i.old (spot_of_install i)

-- the install of a step is among the machine's
abbrev pub HasInstallOf : List Install → AttemptId → Step → Type 0
HasInstallOf installs a s = (i : Install) × Contains installs i × IsInstallOf a s i

-- each install that a pass won is among the machine's
abbrev pub WonAreInstalls : Machine → Type 0
WonAreInstalls m = (pass : ℕ) (p : PassView) → IsAt m pass p → EveryStepOf p (λ s. (a : AttemptId) → WonInstall a s → HasInstallOf m.installs a s)
