use Rattle.md_book.specs.Stands.{IsBookSized}
use Rattle.medley_bench.proofs.fill.add_orders.Given as goal

abbrev pub invariant-loop-order : goal.invariant-loop-order
invariant-loop-order l = IsBookSized l.contents
