use Rattle.md_machine.specs.Event.{load}
use Rattle.md_rule.specs.Steps.{SteppedFrom}
use Rattle.md_rule.proofs.pass.Pass.load.Given as goal

abbrev pub ghosts-load_word : goal.ghosts-load_word
ghosts-load_word g a = record { tells = SteppedFrom g.T.Theory.meaning a.field.now.origin (λ pass. load pass a.word) a.word }
