use Rattle.md_book.proofs.steps.Filling.{fills-are-few}
use Rattle.md_book.proofs.laws.fills_are_few.Goals as goal

pub returns : goal.returns
returns c = fills-are-few
