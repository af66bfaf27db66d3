use Rattle.md_book.proofs.sums.FillsAddUp.{fills-add-up}
use Rattle.md_book.proofs.laws.fills_add_up.Goals as goal

pub returns : goal.returns
returns c = fills-add-up
