use Rattle.md_machine.specs.Event.{start}
use Rattle.md_rule.specs.Steps.{Stepped}
use Rattle.md_rule.proofs.pass.Pass.start.Given as goal

abbrev pub ghosts-store_word : goal.ghosts-store_word
ghosts-store_word g a = record { tells = λ _. Stepped g.T.Theory.meaning a.field.now.origin (λ pass. start pass a.about.value.0 a.about.value.1) }
