-- Each install that a pass won is one of the machine's, after every event.
use Rattle.std.proofs.Common.{subst, ⊎_elim}
use Rattle.md_machine.specs.declared.attempt.AttemptId.{AttemptId}
use Rattle.md_machine.proofs.events.MoveFacts.{MoveFacts}
use Rattle.md_machine.proofs.events.Steps.{adds_step}
use Rattle.md_machine.specs.Machine.{Machine}
use Rattle.md_machine.specs.clauses.slots.WonInstalls.{HasInstallOf, WonAreInstalls}
use Rattle.md_machine.specs.events.Start.{WonInstall}

-- an install that was won stays one
pub won_installs-kept : (m n : Machine) → MoveFacts m n → WonAreInstalls m → WonAreInstalls n
won_installs-kept m n v was j u at segment c s i = ⊎_elim
    (λ old a w. let h = was old.0 old.1 old.2 old.3.0 old.3.1 s old.3.2 a w in (h.0, v.installs_stay h.0 h.1, h.2))
    (λ same. subst (λ t. (a : AttemptId) → WonInstall a t → HasInstallOf n.installs a t) same v.won)
    (adds_step m.passes n.passes v.step v.from s (j, u, at, (segment, c, i)))
