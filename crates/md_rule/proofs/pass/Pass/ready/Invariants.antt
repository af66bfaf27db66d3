use Rattle.md_rule.proofs.Entering.{Readies}
use Rattle.md_rule.proofs.pass.Pass.ready.Given as goal

abbrev pub ghosts-exchange_word : goal.ghosts-exchange_word
ghosts-exchange_word g a = record { tells = Readies g.T.Theory.meaning a.field.now.origin g.K.Certifying.by a.about.value.0 a.from a.about.value.1 }
