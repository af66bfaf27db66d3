use Rattle.md_book.proofs.books.EmptyBook.{empty-stands}
use Rattle.md_book.proofs.laws.empty_book_stands.Goals as goal

pub returns : goal.returns
returns c = empty-stands
