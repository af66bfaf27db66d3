use Rattle.std.proofs.Common.{◌≡◌, ◌+◌, ◌-◌, ◌∙◌, length, set, refl, sym, ap, subst, arith}
use Rattle.std.specs.Prelude.{sum_by}
use Rattle.md_book.specs.declared.commands.Part.{Part}
use Rattle.md_book.specs.declared.commands.BookReply.TheVariants.{Filled}
use Rattle.md_book.specs.Commands.{IsName}
use Rattle.md_book.specs.Suits.{IsPart}
use Rattle.md_orders.proofs.Keeps.{is_name}
use Rattle.md_orders_tests.proofs.Ones.{AreOnes, ones-more}
use Rattle.md_orders_tests.proofs.tests.reports.fill_with.Goals as goal

pub loop-place-preserved : goal.loop-place-preserved
loop-place-preserved c =
    let few = c.requires.few in
    let inside = c.loop-place-test.true in
    let line = c.from.ensures in
    let p : Part = record { name = c.order_name.result; taken = 1 } in
    let named = subst IsName (sym c.order_name.ensures)
    (is_name 1 (c.from.result + 1) (omega arith) (omega arith) (omega arith) (omega arith)) in
    let ok : IsPart p = record { named = named; low = omega arith; high = omega arith } in
    subst (λ k. AreOnes (c.loop-place.place + 1) (set c.loop-place.parts k p)) (sym c.from-in-loop-place.ensures)
    (ones-more c.loop-place.place c.loop-place.parts p c.loop-place.invariant (omega arith) ok refl)

pub returns : goal.returns
returns c =
    let ones = c.loop-place.invariant in
    let low = c.loop-place.auto.place-end in
    let past = c.loop-place-test.false in
    let enough = c.requires.enough in
    let taken_is = c.from-2.ensures in
    let left_is = c.from-3.ensures in
    let count_is = ones.count in
    let sum_is = ones.sum in
    let rest = c.args.quantity - c.from-3.result in
    let total = sum_by (λ (p : Part). p.taken) ones.first in
    let taken : c.from-2.result ≡ total = omega arith in
    let told : c.args.count ≡ length ones.first = omega arith in
    record {
      parts = ones.first;
      rest = rest;
      is = ap (λ n. Filled n rest c.args.count c.loop-place.parts) taken
          ∙ ap (λ n. Filled total rest n c.loop-place.parts) told
          ∙ ap (Filled total rest (length ones.first)) ones.is;
      few = omega arith;
      each = ones.each;
      adds_up = omega arith;
    }
