use Rattle.md_book.proofs.steps.RepliesSuit.{replies-suit}
use Rattle.md_book.proofs.laws.replies_suit.Goals as goal

pub returns : goal.returns
returns c = replies-suit
