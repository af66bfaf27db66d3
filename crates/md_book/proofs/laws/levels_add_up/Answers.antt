use Rattle.md_book.proofs.sums.LevelsAddUp.{levels-add-up}
use Rattle.md_book.proofs.laws.levels_add_up.Goals as goal

pub returns : goal.returns
returns c = levels-add-up
