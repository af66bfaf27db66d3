use Rattle.std.proofs.Common.{◌≡◌}
use Rattle.md_rule.proofs.words.store_word.Given as goal

abbrev pub ghosts-follow : goal.ghosts-follow
ghosts-follow g a = record { follows = λ k now. g.K.Telling.tells a.found k.view now.view × (now.view.lanes ≡ k.view.lanes) × (now.private ≡ a.left.value) }
