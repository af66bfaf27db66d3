use Rattle.md_rule.specs.Steps.{Acted}
use Rattle.md_rule.proofs.pass.Pass.mark_act.Given as goal

abbrev pub ghosts-mark : goal.ghosts-mark
ghosts-mark g a = record { tells = λ _. Acted g.T.Theory.meaning a.field.now.origin a.about.value.0 a.about.value.1 }
