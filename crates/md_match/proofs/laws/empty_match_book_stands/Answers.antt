use Rattle.md_match.proofs.steps.TheBook.{empty-stands}
use Rattle.md_match.proofs.laws.empty_match_book_stands.Goals as goal

pub returns : goal.returns
returns c = empty-stands
