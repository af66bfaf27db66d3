use Rattle.std.proofs.Common.{◌≤◌, arith}
use Rattle.md_orders.specs.Records.{max_records}
use Rattle.md_orders.specs.Scripts.{count_of}
use Rattle.md_rounds.proofs.BookLaws as book
use Rattle.md_rounds.proofs.laws.order_laws.Goals as goal

pub returns-clause-laws : goal.returns-clause-laws
returns-clause-laws c =
    let few : count_of c.args.scripts.now ≤ max_records = omega (arith, c.total.ensures.count, c.total.ensures.few) in
    book.order-laws c.args.scripts.now c.commands_are_named.ensures few c.commands_meet_the_book.ensures
    c.commands_are_small.ensures c.replies_suit.ensures c.empty_book_stands.ensures
