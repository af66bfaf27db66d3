use Rattle.md_book.proofs.books.TheBook.{commands-meet-the-book}
use Rattle.md_book.proofs.laws.commands_meet_the_book.Goals as goal

pub returns : goal.returns
returns c = commands-meet-the-book
