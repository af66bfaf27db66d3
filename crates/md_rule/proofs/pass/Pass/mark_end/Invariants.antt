use Rattle.md_machine.specs.Event.{mark_end}
use Rattle.md_rule.specs.Steps.{Stepped}
use Rattle.md_rule.proofs.pass.Pass.mark_end.Given as goal

abbrev pub ghosts-mark : goal.ghosts-mark
ghosts-mark g a = record { tells = λ _. Stepped g.T.Theory.meaning a.field.now.origin (λ pass. mark_end pass) }
