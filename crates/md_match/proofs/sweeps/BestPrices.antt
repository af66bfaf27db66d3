-- What the best price of a side is.
use Rattle.std.proofs.Common.{◌≡◌, ℕ, ◌+◌, ◌-◌, ◌<◌, nat_lt, true, subst, Some, None, arith}
use Rattle.std.specs.List.{range_with_len}
use Rattle.std.proofs.lemmas.Bool.{leb-true, le-leb, ltb-true, ltb-false}
use Rattle.md_book.specs.declared.commands.Side.{Side}
use Rattle.md_book.specs.declared.commands.Side.TheVariants.{Buy, Sell}
use Rattle.md_book.specs.declared.limits.TheConstants.{MAX_PRICE}
use Rattle.md_book.specs.Book.{Book, IsPrice, level_of, depth}
use Rattle.md_book.proofs.books.Lessened.{Has, find-has}
use Rattle.md_match.specs.Matching.{opposite, reaches, prices_by_limit, best_price}
use Rattle.md_match.proofs.sweeps.Ranges.{has-range, in-range, has-map, map-has, none-has}

-- a price that an order of a limit may take at
pub record IsWithin (side : Side) (limit price : ℕ) : Type 0 where
  pub priced : IsPrice price
  pub good : reaches side limit price ≡ true

-- the prices by a limit are those that reach it
pub listed-within : (side : Side) (limit price : ℕ) → IsPrice limit → Has (prices_by_limit side limit) price → IsWithin side limit price
listed-within Buy limit price is has =
    let from = has-range 1 limit price has in
    record { priced = record { low = from.0; high = omega (arith, from.1, is.high) }; good = le-leb price limit (omega (arith, from.1)) }
listed-within Sell limit price is has =
    let from = map-has (λ below. MAX_PRICE - below) (range_with_len 0 (MAX_PRICE + 1 - limit)) price has in
    let inside = has-range 0 (MAX_PRICE + 1 - limit) from.0 from.1 in
    record {
      priced = record { low = omega (arith, from.2, inside.1, is.low, is.high); high = omega (arith, from.2) };
      good = le-leb limit price (omega (arith, from.2, inside.1, is.low, is.high));
    }

-- and those that reach it are among them
pub within-listed : (side : Side) (limit price : ℕ) → IsPrice limit → IsWithin side limit price → Has (prices_by_limit side limit) price
within-listed Buy limit price is in_reach = in-range 1 limit price in_reach.priced.low (omega (arith, leb-true price limit in_reach.good))
within-listed Sell limit price is in_reach =
    let low = leb-true limit price in_reach.good in
    let back : MAX_PRICE - (MAX_PRICE - price) ≡ price = omega (arith, in_reach.priced.high) in
    subst (Has (prices_by_limit Sell limit)) back
    (has-map (λ below. MAX_PRICE - below) (range_with_len 0 (MAX_PRICE + 1 - limit)) (MAX_PRICE - price) (in-range 0 (MAX_PRICE + 1 - limit) (MAX_PRICE - price) (omega arith) (omega (arith, low, in_reach.priced.high))))

module _ (b : Book) (side : Side) (limit : ℕ) (is : IsPrice limit) where
  -- the best price reaches the limit, and its level has depth
  pub best-within : (price : ℕ) → best_price b side limit ≡ Some price → IsWithin side limit price × (0 < depth b (level_of (opposite side) price))
  best-within price e =
      let found = find-has (λ p. nat_lt 0 (depth b (level_of (opposite side) p))) (prices_by_limit side limit) price e in
      (listed-within side limit price is found.0, ltb-true 0 (depth b (level_of (opposite side) price)) found.1)

  -- where there is no best price, no level within the limit has depth
  pub none-within : best_price b side limit ≡ None → (price : ℕ) → IsWithin side limit price → depth b (level_of (opposite side) price) ≡ 0
  none-within e price in_reach =
      let fails = none-has (λ p. nat_lt 0 (depth b (level_of (opposite side) p))) (prices_by_limit side limit) price e (within-listed side limit price is in_reach) in
      omega (arith, ltb-false 0 (depth b (level_of (opposite side) price)) fails)
