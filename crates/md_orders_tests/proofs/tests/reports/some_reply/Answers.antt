use Rattle.std.proofs.Common.{◌≡◌, [], ◌∷◌, sym, ap, subst, arith, zero-add, inl, inr}
use Rattle.std.specs.Prelude.{sum_by}
use Rattle.std.proofs.lemmas.List.Elements.{All-from_recursion}
use Rattle.md_book.specs.declared.commands.Part.{Part}
use Rattle.md_book.specs.declared.commands.BookReply.TheVariants.{Filled}
use Rattle.md_book.specs.Book.{padded}
use Rattle.md_book.specs.Commands.{IsName}
use Rattle.md_book.specs.Suits.{IsPart}
use Rattle.md_orders.proofs.Keeps.{is_name}
use Rattle.md_orders_tests.proofs.tests.reports.some_reply.Goals as goal

pub returns-in-Fill : goal.returns-in-Fill
returns-in-Fill c =
    let fill = rw c.in-Fill.is at c.requires in
    let p : Part = record { name = c.order_name.result; taken = c.in-Fill.quantity } in
    let sum_is : sum_by (λ (p : Part). p.taken) (p ∷ []) ≡ c.in-Fill.quantity = zero-add c.in-Fill.quantity in
    let low = fill.offer.quantity_low in
    let high = fill.offer.quantity_high in
    rw c.in-Fill.is (record {
      parts = p ∷ [];
      rest = 0;
      is = ap (λ n. Filled n 0 1 (padded (p ∷ []))) (sym sum_is);
      few = elim fill.looks [ inl first ↦ omega arith | inr second ↦ omega arith ];
      each = All-from_recursion IsPart (p ∷ []) (record { named = subst IsName (sym c.order_name.ensures) (is_name 64 1000000 (omega arith) (omega arith) (omega arith) (omega arith)); low = low; high = high }, tt);
      adds_up = omega (arith, sum_is);
    })
