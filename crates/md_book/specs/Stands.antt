-- When maps and queues stand for a book.
use Rattle.std.specs.Prelude.{◌≡◌, ℕ, ◌+◌, ◌-◌, ◌*◌, ◌/◌, ◌%◌, ◌^◌, ◌<◌, ◌≤◌, ◌==◌, nat_eq, if◌then◌else◌, length, map}
use Rattle.std.specs.Prelude.{take, drop, sum_by, All, Option, Some, None}
use Rattle.std.specs.List.{IsDistinct}
use Rattle.std.specs.Option.{option_map}
use Rattle.std.specs.FinMap as fin
use Rattle.md_history.specs.State.{State, map_at, queue_at}
use Rattle.md_book.specs.declared.commands.Side.{Side}
use Rattle.md_book.specs.declared.commands.Side.TheVariants.{Buy, Sell}
use Rattle.md_book.specs.declared.limits.TheConstants.{MAX_PRICE, MAX_QUANTITY}
use Rattle.md_book.specs.declared.maps.TheConstants.{MAPS, OPEN_ORDERS, DEPTHS, BOUGHT, SOLD, LEVELS}
use Rattle.md_book.specs.Book.{Order, Book, IsAccount, IsPrice, orders_at, find_open, depth, bought, sold}

-- an order's account, side, price and what is left, packed in one number
abbrev pub side_bit : Side → ℕ
side_bit Buy = 0
side_bit Sell = 1

abbrev pub packed : ℕ → Side → ℕ → ℕ → ℕ
packed account side price left = ((account * 2 + side_bit side) * 1024 + price) * 1048576 + left

-- what a packed number holds: the account, the level, and what is left
abbrev pub account_in : ℕ → ℕ
account_in order = order / 2 ^ 31

abbrev pub level_in : ℕ → ℕ
level_in order = order / 2 ^ 30 % 2 * MAX_PRICE + (order / 2 ^ 20 % 1024 - 1)

abbrev pub left_in : ℕ → ℕ
left_in order = order % 2 ^ 20

-- what the map of open orders has at a name: the order of that name, packed, if something is left of it
abbrev pub open_order : Book → ℕ → Option ℕ
open_order b name = option_map (λ o. packed o.account o.side o.price o.left) (find_open b name)

-- a sum that is absent if it is 0
abbrev pub unless_0 : ℕ → Option ℕ
unless_0 n = if n == 0 then None else Some n

-- an order's numbers are in range
pub record IsInRange (o : Order) : Type 0 where
  pub account : IsAccount o.account
  pub price : IsPrice o.price
  pub left : o.left ≤ MAX_QUANTITY

-- a book as commands can have made it
pub record IsSound (b : Book) : Type 0 where
  pub distinct : IsDistinct nat_eq (map (λ o. o.name) b.orders)
  pub few : length b.orders < 2 ^ 32
  pub in_range : All IsInRange b.orders
  pub passed : (level : ℕ) → b.passed level ≤ length (orders_at b level)
  pub emptied : (level : ℕ) → All (λ o. o.left ≡ 0) (take (b.passed level) (orders_at b level))
  pub traded : All (λ t. IsAccount t.resting × IsAccount t.taker) b.trades
  pub total : sum_by (λ o. o.left) b.orders + sum_by (λ t. t.taken) b.trades ≤ MAX_QUANTITY * length b.orders

-- the maps and queues of a book have what it has; there may be further ones
pub record Shows (s : State) (b : Book) : Type 0 where
  pub sound : IsSound b
  pub orders : (name : ℕ) → fin.get (map_at s OPEN_ORDERS) name ≡ open_order b name
  pub depths : (level : ℕ) → fin.get (map_at s DEPTHS) level ≡ unless_0 (depth b level)
  pub bought : (account : ℕ) → fin.get (map_at s BOUGHT) account ≡ unless_0 (bought b account)
  pub sold : (account : ℕ) → fin.get (map_at s SOLD) account ≡ unless_0 (sold b account)
  pub names : (level : ℕ) → level < LEVELS
      → queue_at s level ≡ drop (b.passed level) (map (λ o. o.name) (orders_at b level))

-- there are the maps and queues of a book, and no others
pub record IsBookSized (s : State) : Type 0 where
  pub maps : length s.maps ≡ MAPS
  pub queues : length s.queues ≡ LEVELS

-- the maps and queues stand for the book
pub record StandsFor (s : State) (b : Book) : Type 0 where
  pub sized : IsBookSized s
  pub shows : Shows s b
