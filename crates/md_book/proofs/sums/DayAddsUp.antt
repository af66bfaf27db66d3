-- What all commands place, cancel and fill.
use Rattle.std.proofs.Common.{◌≡◌, ◌≤◌, ◌<◌, ℕ, ◌+◌, ◌==◌, true, cond, List, [], ◌∷◌, refl, ap, ◌∙◌, arith}
use Rattle.std.specs.Prelude.{sum_by}
use Rattle.std.specs.List.{AllByRecursion, range_with_len}
use Rattle.std.proofs.lemmas.List.Elements.{recursion_from_All}
use Rattle.md_book.specs.declared.commands.Side.{Side}
use Rattle.md_book.specs.declared.commands.Side.TheVariants.{Buy, Sell}
use Rattle.md_book.specs.declared.commands.Command.{Command}
use Rattle.md_book.specs.declared.commands.Command.TheVariants.{Place, Cancel, Fill, Kill, Depth, Account}
use Rattle.md_book.specs.declared.maps.TheConstants.{LEVELS}
use Rattle.md_book.specs.Book.{Order, Book, IsPrice, empty_book, level_of, depth, look, fill_step, book_step}
use Rattle.md_book.specs.Trading.{told_taken, told_parts, parts_from, closing, taken_from, filled_by, DayAddsUp}
use Rattle.md_book.proofs.steps.Kills.{kill-either}
use Rattle.md_book.proofs.sums.Sums.{sum_by-equal, sum_by-filter, sum_by-keys}
use Rattle.md_book.proofs.sums.Days.{opening, run-open, run-adds}
use Rattle.md_book.proofs.sums.FillsAddUp.{sum-padded}
use Rattle.md_book.proofs.sums.OrdersAddUp.{Known, all-known, orders-add-up}

-- what is taken from all orders is what is filled
fill-fills : (b : Book) (account level quantity places : ℕ) → let r = (fill_step b account level quantity places).reply in parts_from (λ _. true) (told_parts r) ≡ told_taken r
fill-fills b account level quantity places = sum-padded (λ p. p.taken) refl (look level account places b quantity).parts

step-fills : (b : Book) (c : Command) → taken_from (λ _. true) (c, (book_step b c).reply) ≡ filled_by (c, (book_step b c).reply)
step-fills b (Place name account side price quantity) = refl
step-fills b (Cancel name) = refl
step-fills b (Fill account side price quantity places) = fill-fills b account (level_of side price) quantity places
step-fills b (Kill account side price quantity places) =
    kill-either b account (level_of side price) quantity places (λ step. parts_from (λ _. true) (told_parts step.reply) ≡ told_taken step.reply) (fill-fills b account (level_of side price) quantity places) refl
step-fills b (Depth side price) = refl
step-fills b (Account account) = refl

pub level-low : (side : Side) (price : ℕ) → IsPrice price → level_of side price < LEVELS
level-low Buy price is = omega (arith, is.low, is.high)
level-low Sell price is = omega (arith, is.low, is.high)

in-levels : (os : List Order) → AllByRecursion (λ o. IsPrice o.price) os → AllByRecursion (λ o. (0 ≤ level_of o.side o.price) × (level_of o.side o.price < 0 + LEVELS)) os
in-levels [] priced = tt
in-levels (o ∷ os) priced = let low = level-low o.side o.price priced.0 in ((omega arith, omega arith), in-levels os priced.1)

-- what is left in all is left at the levels
depths-add : (b : Book) → AllByRecursion (λ o. IsPrice o.price) b.orders → sum_by (depth b) (range_with_len 0 LEVELS) ≡ sum_by (λ o. o.left) b.orders
depths-add b priced =
    sum_by-equal (depth b) (λ k. sum_by (λ o. cond (level_of o.side o.price == k) o.left 0) b.orders) (λ k. sum_by-filter (λ o. o.left) (λ o. level_of o.side o.price == k) b.orders) (range_with_len 0 LEVELS)
    ∙ sum_by-keys (λ o. level_of o.side o.price) (λ o. o.left) 0 LEVELS b.orders (in-levels b.orders priced)

-- an equation of four sums, with two of them written in another way
pub both_written : (placed cancelled taken left filled rest : ℕ) → placed ≡ cancelled + taken + left → 0 + taken ≡ 0 + filled → rest ≡ left → placed ≡ cancelled + filled + rest
both_written placed cancelled taken left filled rest e f g = omega arith

pub day-adds-up : DayAddsUp
day-adds-up cs day =
    let open_day = opening Known cs day (all-known cs) in
    let priced = recursion_from_All (λ (o : Order). IsPrice o.price) (closing cs).orders (run-open Known cs empty_book open_day).priced in
    both_written _ _ _ _ _ _ (orders-add-up cs (λ _. true) day)
    (run-adds Known (λ _. 0) filled_by (taken_from (λ _. true)) (λ b c cs is. ap (λ n. 0 + n) (step-fills b c)) cs empty_book open_day)
    (depths-add (closing cs) priced)
