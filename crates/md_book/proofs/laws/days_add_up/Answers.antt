use Rattle.md_book.proofs.sums.DayAddsUp.{day-adds-up}
use Rattle.md_book.proofs.laws.days_add_up.Goals as goal

pub returns : goal.returns
returns c = day-adds-up
