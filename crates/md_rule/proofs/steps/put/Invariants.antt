use Rattle.md_words.specs.Content.{word_of}
use Rattle.md_machine.specs.Event.{install}
use Rattle.md_rule.specs.Steps.{SteppedFrom}
use Rattle.md_rule.proofs.steps.put.Given as goal

abbrev pub ghosts-exchange_word : goal.ghosts-exchange_word
ghosts-exchange_word g a = record { tells = SteppedFrom g.T.Theory.meaning a.field.now.origin (λ pass. install pass a.word (word_of a.about.value.0) a.about.value.1) a.word }
