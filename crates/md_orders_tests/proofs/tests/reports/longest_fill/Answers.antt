use Rattle.std.proofs.Common.{List, [], ◌∷◌, refl, sym, subst, le_refl, arith}
use Rattle.std.proofs.lemmas.List.Elements.{All-from_recursion}
use Rattle.md_book.specs.declared.commands.Part.{Part}
use Rattle.md_book.specs.Commands.{IsName}
use Rattle.md_book.specs.Suits.{IsPart}
use Rattle.md_orders.proofs.Keeps.{is_name}
use Rattle.md_orders_tests.proofs.tests.reports.longest_fill.Goals as goal

pub returns : goal.returns
returns c =
    let named = subst IsName (sym c.order_name-name.ensures)
    (is_name 64 1000000 (omega arith) (omega arith) (omega arith) (omega arith)) in
    let large : Part = record { name = c.order_name-name.result; taken = 100000 } in
    let small : Part = record { name = c.order_name-name.result; taken = 25000 } in
    let many : IsPart large = record { named = named; low = omega arith; high = omega arith } in
    let few : IsPart small = record { named = named; low = omega arith; high = omega arith } in
    let fours : List Part = small ∷ small ∷ small ∷ small ∷ [] in
    let parts : List Part = large ∷ large ∷ large ∷ large ∷ large ∷ large ∷ large ∷ large ∷ fours in
    record {
      parts = parts;
      rest = 100000;
      is = refl;
      few = le_refl _;
      each = All-from_recursion IsPart parts
          (many, (many, (many, (many, (many, (many, (many, (many, (few, (few, (few, (few, tt))))))))))));
      adds_up = refl;
    }
