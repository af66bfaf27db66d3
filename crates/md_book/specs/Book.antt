-- The order book, and what each command does to it and answers.
use Rattle.std.specs.Prelude.{◌≤◌, ℕ, zero, suc, ◌+◌, ◌-◌, ◌==◌, ◌&&◌, nat_lt, nat_le, if◌then◌else◌, min, take, drop}
use Rattle.std.specs.Prelude.{List, [], ◌∷◌, ◌++◌, Option, Some, None, filter, find, map, length, replicate, sum_by}
use Rattle.std.specs.Prelude.{slice_get}
use Rattle.md_book.specs.declared.commands.Side.{Side}
use Rattle.md_book.specs.declared.commands.Side.TheVariants.{Buy, Sell}
use Rattle.md_book.specs.declared.commands.Command.{Command}
use Rattle.md_book.specs.declared.commands.Command.TheVariants.{Place, Cancel, Fill, Kill, Depth, Account}
use Rattle.md_book.specs.declared.commands.Part.{Part}
use Rattle.md_book.specs.declared.commands.BookReply.{BookReply}
use Rattle.md_book.specs.declared.commands.BookReply.TheVariants as reply
use Rattle.md_book.specs.declared.limits.TheConstants.{MAX_PARTS, MAX_ACCOUNT, MAX_PRICE}

-- an order that was placed, with what is left of it
pub record Order : Type 0 where
  pub name : ℕ
  pub account : ℕ
  pub side : Side
  pub price : ℕ
  pub left : ℕ

-- what was taken from a resting order: its side and its account, the taker's account, and how much
pub record Trade : Type 0 where
  pub side : Side
  pub resting : ℕ
  pub taker : ℕ
  pub taken : ℕ

-- every order that was ever placed, in that order; for each level how many of its places were passed; the trades
pub record Book : Type 0 where
  pub orders : List Order
  pub passed : ℕ → ℕ
  pub trades : List Trade

abbrev pub empty_book : Book
empty_book = record { orders = []; passed = λ _. 0; trades = [] }

pub record IsAccount (account : ℕ) : Type 0 where
  pub low : 1 ≤ account
  pub high : account ≤ MAX_ACCOUNT

pub record IsPrice (price : ℕ) : Type 0 where
  pub low : 1 ≤ price
  pub high : price ≤ MAX_PRICE

-- the level of a side and a price: those of buy orders come first, by price, and then those of sell orders
abbrev pub level_of : Side → ℕ → ℕ
level_of Buy price = price - 1
level_of Sell price = MAX_PRICE + (price - 1)

-- the orders of a level: its places, in the order in which they were placed
abbrev pub orders_at : Book → ℕ → List Order
orders_at b level = filter (λ o. level_of o.side o.price == level) b.orders

-- the sum of what is left at a level
abbrev pub depth : Book → ℕ → ℕ
depth b level = sum_by (λ o. o.left) (orders_at b level)

-- the account that bought, and the one that sold: at a buy order it rests, at a sell order it takes
abbrev pub buyer : Trade → ℕ
buyer t = elim t.side [ Buy ↦ t.resting | Sell ↦ t.taker ]

abbrev pub seller : Trade → ℕ
seller t = elim t.side [ Buy ↦ t.taker | Sell ↦ t.resting ]

-- what an account bought in all, and what it sold
abbrev pub bought : Book → ℕ → ℕ
bought b account = sum_by (λ t. if buyer t == account then t.taken else 0) b.trades

abbrev pub sold : Book → ℕ → ℕ
sold b account = sum_by (λ t. if seller t == account then t.taken else 0) b.trades

-- the order of a name, if something is left of it
abbrev pub find_open : Book → ℕ → Option Order
find_open b name = find (λ o. (o.name == name) && nat_lt 0 o.left) b.orders

-- the order of a name has so much less left
abbrev pub lessen : ℕ → ℕ → Order → Order
lessen name by o = if o.name == name then record o { left = o.left - by } else o

abbrev pub lessened : List Order → ℕ → ℕ → List Order
lessened orders name by = map (lessen name by) orders

-- the order at a level's first place that was not passed
abbrev pub front_order : Book → ℕ → Option Order
front_order b level = slice_get (orders_at b level) (b.passed level)

-- that place is passed
abbrev pub pass : Book → ℕ → Book
pass b level = record b { passed = λ l. if l == level then b.passed l + 1 else b.passed l }

-- an account takes so much from an order: that has so much less left, and there is a trade more
abbrev pub trade : Book → Order → ℕ → ℕ → Book
trade b o taker taken = record b {
  orders = lessened b.orders o.name taken;
  trades = b.trades ++ record { side = o.side; resting = o.account; taker = taker; taken = taken } ∷ [];
}

-- the book after a command, and its reply
pub record BookStep : Type 0 where
  pub book : Book
  pub reply : BookReply

-- an order joins the book, with all its quantity left
abbrev pub place_step : Book → Order → BookStep
place_step b o = record { book = record b { orders = b.orders ++ o ∷ [] }; reply = reply.Placed }

-- of an open order nothing is left
abbrev pub cancel_step : Book → Option Order → BookStep
cancel_step b None = record { book = b; reply = reply.Gone }
cancel_step b (Some o) =
    record { book = record b { orders = lessened b.orders o.name o.left }; reply = reply.Cancelled o.left }

-- what looks at places come to: the book after them, what remains to be taken, and what was taken from which order
pub record Looked : Type 0 where
  pub book : Book
  pub rest : ℕ
  pub parts : List Part

abbrev pub ended : Book → ℕ → Looked
ended b rest = record { book = b; rest = rest; parts = [] }

abbrev pub first_part : Order → ℕ → Looked → Looked
first_part o taken more = record more { parts = record { name = o.name; taken = taken } ∷ more.parts }

-- the book after a trade at the front place: it is passed if the order is emptied
abbrev pub traded : Book → ℕ → Order → ℕ → ℕ → Book
traded b level o taker taken = if o.left == taken then pass (trade b o taker taken) level else trade b o taker taken

-- a look at the front place: nobody is there, or a dead place is passed, or the smaller of what the order has left
-- and what remains is taken
abbrev pub look_at : Option Order → ℕ → ℕ → Book → ℕ → (Book → ℕ → Looked) → Looked
look_at None level taker b rest more = ended b rest
look_at (Some o) level taker b rest more =
    if o.left == 0
    then more (pass b level) rest
    else first_part o (min o.left rest) (more (traded b level o taker (min o.left rest)) (rest - min o.left rest))

-- looks at up to so many places of a level, as long as something remains
unfoldable pub look : ℕ → ℕ → ℕ → Book → ℕ → Looked
look level taker zero b rest = ended b rest
look level taker (suc places) b rest =
    if rest == 0 then ended b rest else look_at (front_order b level) level taker b rest (look level taker places)

-- as many parts as a reply has room for, those past the ones that there are being zero
abbrev pub padded : List Part → List Part
padded parts = parts ++ replicate (MAX_PARTS - length parts) (record { name = 0; taken = 0 })

abbrev pub looked_step : Looked → BookStep
looked_step l = record {
  book = l.book;
  reply = reply.Filled (sum_by (λ p. p.taken) l.parts) l.rest (length l.parts) (padded l.parts);
}

-- an account takes up to a quantity from so many places of a level at most
abbrev pub fill_step : Book → ℕ → ℕ → ℕ → ℕ → BookStep
fill_step b account level quantity places = looked_step (look level account places b quantity)

-- the orders at a level's first places that weren't passed: so many of them, or all if there are fewer
abbrev pub first_orders : Book → ℕ → ℕ → List Order
first_orders b level places = take places (drop (b.passed level) (orders_at b level))

-- the sum of what these have left
abbrev pub left_within : Book → ℕ → ℕ → ℕ
left_within b level places = sum_by (λ o. o.left) (first_orders b level places)

-- all or nothing: if those places have the whole quantity left, it is taken as a fill takes it; otherwise nothing
-- changes
abbrev pub kill_step : Book → ℕ → ℕ → ℕ → ℕ → BookStep
kill_step b account level quantity places =
    if nat_le quantity (left_within b level places)
    then fill_step b account level quantity places
    else record { book = b; reply = reply.Killed }

abbrev pub book_step : Book → Command → BookStep
book_step b (Place name account side price quantity) =
    place_step b (record { name = name; account = account; side = side; price = price; left = quantity })
book_step b (Cancel name) = cancel_step b (find_open b name)
book_step b (Fill account side price quantity places) = fill_step b account (level_of side price) quantity places
book_step b (Kill account side price quantity places) = kill_step b account (level_of side price) quantity places
book_step b (Depth side price) = record { book = b; reply = reply.Depth (depth b (level_of side price)) }
book_step b (Account account) = record { book = b; reply = reply.Account (bought b account) (sold b account) }

-- the book after commands, in order
abbrev pub book_after : Book → List Command → Book
book_after b [] = b
book_after b (c ∷ cs) = book_after (book_step b c).book cs

-- the replies of commands, in order
abbrev pub replies_to : Book → List Command → List BookReply
replies_to b [] = []
replies_to b (c ∷ cs) = (book_step b c).reply ∷ replies_to (book_step b c).book cs
