use Rattle.md_book.proofs.sums.OrdersAddUp.{orders-add-up}
use Rattle.md_book.proofs.laws.orders_add_up.Goals as goal

pub returns : goal.returns
returns c = orders-add-up
