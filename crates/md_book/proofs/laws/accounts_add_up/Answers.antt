use Rattle.md_book.proofs.sums.AccountsAddUp.{accounts-add-up}
use Rattle.md_book.proofs.laws.accounts_add_up.Goals as goal

pub returns : goal.returns
returns c = accounts-add-up
