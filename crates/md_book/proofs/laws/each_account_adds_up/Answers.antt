use Rattle.md_book.proofs.sums.EachAccountAddsUp.{each-account-adds-up}
use Rattle.md_book.proofs.laws.each_account_adds_up.Goals as goal

pub returns : goal.returns
returns c = each-account-adds-up
