use Rattle.md_book.proofs.steps.Small.{commands-are-small}
use Rattle.md_book.proofs.laws.commands_are_small.Goals as goal

pub returns : goal.returns
returns c = commands-are-small
