use Rattle.md_book.proofs.sums.EachOrderAddsUp.{each-order-adds-up}
use Rattle.md_book.proofs.laws.each_order_adds_up.Goals as goal

pub returns : goal.returns
returns c = each-order-adds-up
