-- The worked examples are days of the matching book.
use Rattle.std.proofs.Common.{refl}
use Rattle.md_book.specs.Book.{look}
use Rattle.md_match.specs.Matching.{sweep}
use Rattle.md_match.specs.Days.{TenLines, FiveOrders, DeadPlaces, AreWorkedDays}

ten-lines : TenLines
unfolding look sweep
ten-lines = refl

five-orders : FiveOrders
unfolding look sweep
five-orders = refl

dead-places : DeadPlaces
unfolding look sweep
dead-places = refl

-- all three
pub are-worked-days : AreWorkedDays
are-worked-days = record { ten_lines = ten-lines; five_orders = five-orders; dead_places = dead-places }
