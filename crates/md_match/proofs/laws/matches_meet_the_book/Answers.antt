use Rattle.md_match.proofs.steps.TheBook.{matches-meet-the-book}
use Rattle.md_match.proofs.laws.matches_meet_the_book.Goals as goal

pub returns : goal.returns
returns c = matches-meet-the-book
