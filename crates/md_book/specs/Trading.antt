-- What a run of commands comes to, told by the commands and their replies.
use Rattle.std.specs.Prelude.{◌≡◌, ◌⊎◌, ℕ, ◌+◌, ◌==◌, ◌&&◌, nat_eq, Bool, true, false, if◌then◌else◌, List, [], ◌∷◌}
use Rattle.std.specs.Prelude.{sum_by, All, Contains}
use Rattle.std.specs.List.{IsDistinct, zip, list_any, range_with_len}
use Rattle.md_book.specs.declared.commands.Side.{Side}
use Rattle.md_book.specs.declared.commands.Side.TheVariants.{Buy, Sell}
use Rattle.md_book.specs.declared.commands.Command.{Command}
use Rattle.md_book.specs.declared.commands.Command.TheVariants.{Place, Cancel, Fill, Kill, Depth, Account}
use Rattle.md_book.specs.declared.commands.Part.{Part}
use Rattle.md_book.specs.declared.commands.BookReply.{BookReply}
use Rattle.md_book.specs.declared.commands.BookReply.TheVariants as reply
use Rattle.md_book.specs.declared.limits.TheConstants.{MAX_ACCOUNT}
use Rattle.md_book.specs.declared.maps.TheConstants.{LEVELS}
use Rattle.md_book.specs.Book.{Book, empty_book, level_of, depth, bought, sold, book_after, replies_to}
use Rattle.md_book.specs.Commands.{IsCommand}

-- the names of the orders that commands place
abbrev pub names_placed : List Command → List ℕ
names_placed [] = []
names_placed (Place name account side price quantity ∷ cs) = name ∷ names_placed cs
names_placed (Cancel name ∷ cs) = names_placed cs
names_placed (Fill account side price quantity places ∷ cs) = names_placed cs
names_placed (Kill account side price quantity places ∷ cs) = names_placed cs
names_placed (Depth side price ∷ cs) = names_placed cs
names_placed (Account account ∷ cs) = names_placed cs

-- a day of trading: commands in range, and each order has a name of its own
pub record IsDay (cs : List Command) : Type 0 where
  pub lawful : All IsCommand cs
  pub distinct : IsDistinct nat_eq (names_placed cs)

-- each command with its reply, from the empty book on
abbrev pub answered : List Command → List (Command × BookReply)
answered cs = zip cs (replies_to empty_book cs)

-- the book at the end
abbrev pub closing : List Command → Book
closing cs = book_after empty_book cs

-- what a reply says was cancelled
abbrev pub told_cancelled : BookReply → ℕ
told_cancelled reply.Placed = 0
told_cancelled (reply.Cancelled left) = left
told_cancelled reply.Gone = 0
told_cancelled reply.Killed = 0
told_cancelled (reply.Filled taken rest count parts) = 0
told_cancelled (reply.Depth depth) = 0
told_cancelled (reply.Account bought sold) = 0

-- what a reply says was taken in all
abbrev pub told_taken : BookReply → ℕ
told_taken reply.Placed = 0
told_taken (reply.Cancelled left) = 0
told_taken reply.Gone = 0
told_taken reply.Killed = 0
told_taken (reply.Filled taken rest count parts) = taken
told_taken (reply.Depth depth) = 0
told_taken (reply.Account bought sold) = 0

-- the parts that a reply tells
abbrev pub told_parts : BookReply → List Part
told_parts reply.Placed = []
told_parts (reply.Cancelled left) = []
told_parts reply.Gone = []
told_parts reply.Killed = []
told_parts (reply.Filled taken rest count parts) = parts
told_parts (reply.Depth depth) = []
told_parts (reply.Account bought sold) = []

-- what parts took from these orders
abbrev pub parts_from : (ℕ → Bool) → List Part → ℕ
parts_from of parts = sum_by (λ p. if of p.name then p.taken else 0) parts

-- the quantity that a command places, if its order is one of these
abbrev pub placed_among : (ℕ → Bool) → Command × BookReply → ℕ
placed_among of (Place name account side price quantity, r) = if of name then quantity else 0
placed_among of (Cancel name, r) = 0
placed_among of (Fill account side price quantity places, r) = 0
placed_among of (Kill account side price quantity places, r) = 0
placed_among of (Depth side price, r) = 0
placed_among of (Account account, r) = 0

-- what is cancelled of these orders
abbrev pub cancelled_among : (ℕ → Bool) → Command × BookReply → ℕ
cancelled_among of (Place name account side price quantity, r) = 0
cancelled_among of (Cancel name, r) = if of name then told_cancelled r else 0
cancelled_among of (Fill account side price quantity places, r) = 0
cancelled_among of (Kill account side price quantity places, r) = 0
cancelled_among of (Depth side price, r) = 0
cancelled_among of (Account account, r) = 0

-- what is taken from these orders, part by part
abbrev pub taken_from : (ℕ → Bool) → Command × BookReply → ℕ
taken_from of (Place name account side price quantity, r) = 0
taken_from of (Cancel name, r) = 0
taken_from of (Fill account side price quantity places, r) = parts_from of (told_parts r)
taken_from of (Kill account side price quantity places, r) = parts_from of (told_parts r)
taken_from of (Depth side price, r) = 0
taken_from of (Account account, r) = 0

-- what these orders have left in a book
abbrev pub left_among : (ℕ → Bool) → Book → ℕ
left_among of b = sum_by (λ o. if of o.name then o.left else 0) b.orders

-- of whichever orders, what was placed is what was cancelled, was taken and is left
abbrev pub OrdersAddUp : Type 0
OrdersAddUp = (cs : List Command) (of : ℕ → Bool) → IsDay cs
    → sum_by (placed_among of) (answered cs)
    ≡ sum_by (cancelled_among of) (answered cs) + sum_by (taken_from of) (answered cs) + left_among of (closing cs)

-- of each order, what was taken from it in all, was cancelled of it and is left adds up to what was placed: it never
-- gives more than its quantity
abbrev pub EachOrderAddsUp : Type 0
EachOrderAddsUp = (cs : List Command) (name account : ℕ) (side : Side) (price quantity : ℕ)
    → IsDay cs → Contains cs (Place name account side price quantity)
    → quantity
    ≡ sum_by (cancelled_among (λ n. n == name)) (answered cs) + sum_by (taken_from (λ n. n == name)) (answered cs)
    + left_among (λ n. n == name) (closing cs)

-- whether a command places an order of the name, with a side, price and account that pass a test
abbrev pub places_order : (Side → ℕ → ℕ → Bool) → ℕ → Command → Bool
places_order test name (Place own account side price quantity) = (own == name) && test side price account
places_order test name (Cancel own) = false
places_order test name (Fill account side price quantity places) = false
places_order test name (Kill account side price quantity places) = false
places_order test name (Depth side price) = false
places_order test name (Account account) = false

-- whether one of the commands places an order of the name at the level
abbrev pub is_placed_at : List Command → ℕ → ℕ → Bool
is_placed_at cs level name = list_any (places_order (λ side price account. level_of side price == level) name) cs

-- whether one of the commands places an order of the name for the account
abbrev pub is_placed_for : List Command → ℕ → ℕ → Bool
is_placed_for cs account name = list_any (places_order (λ side price own. own == account) name) cs

-- what a command fills
abbrev pub filled_by : Command × BookReply → ℕ
filled_by (Place name account side price quantity, r) = 0
filled_by (Cancel name, r) = 0
filled_by (Fill account side price quantity places, r) = told_taken r
filled_by (Kill account side price quantity places, r) = told_taken r
filled_by (Depth side price, r) = 0
filled_by (Account account, r) = 0

-- what a command fills at a level
abbrev pub filled_at : ℕ → Command × BookReply → ℕ
filled_at level (Place name account side price quantity, r) = 0
filled_at level (Cancel name, r) = 0
filled_at level (Fill account side price quantity places, r) = if level_of side price == level then told_taken r else 0
filled_at level (Kill account side price quantity places, r) = if level_of side price == level then told_taken r else 0
filled_at level (Depth side price, r) = 0
filled_at level (Account account, r) = 0

-- at each level, what was placed is what was cancelled, was filled and is open
abbrev pub LevelsAddUp : Type 0
LevelsAddUp = (cs : List Command) (level : ℕ) → IsDay cs
    → sum_by (placed_among (is_placed_at cs level)) (answered cs)
    ≡ sum_by (cancelled_among (is_placed_at cs level)) (answered cs) + sum_by (filled_at level) (answered cs)
    + depth (closing cs) level

-- in all, what was placed is what was cancelled, was filled and is open at the levels
abbrev pub DayAddsUp : Type 0
DayAddsUp = (cs : List Command) → IsDay cs
    → sum_by (placed_among (λ _. true)) (answered cs)
    ≡ sum_by (cancelled_among (λ _. true)) (answered cs) + sum_by filled_by (answered cs)
    + sum_by (depth (closing cs)) (range_with_len 0 LEVELS)

-- what all accounts bought is what was filled, and so is what they sold
abbrev pub AccountsAddUp : Type 0
AccountsAddUp = (cs : List Command) → IsDay cs
    → (sum_by (bought (closing cs)) (range_with_len 1 MAX_ACCOUNT) ≡ sum_by filled_by (answered cs))
    × (sum_by (sold (closing cs)) (range_with_len 1 MAX_ACCOUNT) ≡ sum_by filled_by (answered cs))

abbrev pub is_side : Side → Side → Bool
is_side Buy Buy = true
is_side Buy Sell = false
is_side Sell Buy = false
is_side Sell Sell = true

-- what an account deals in at a side when a taker takes from one: at that side it is what is taken from the
-- account's orders, at the other what it takes itself
abbrev pub told_share : Side → (ℕ → Bool) → ℕ → Side → ℕ → BookReply → ℕ
told_share side of account at taker r =
    if is_side side at
    then parts_from of (told_parts r)
    else (if taker == account then told_taken r else 0)

abbrev pub dealt : Side → (ℕ → Bool) → ℕ → Command × BookReply → ℕ
dealt side of account (Place name own at price quantity, r) = 0
dealt side of account (Cancel name, r) = 0
dealt side of account (Fill taker at price quantity places, r) = told_share side of account at taker r
dealt side of account (Kill taker at price quantity places, r) = told_share side of account at taker r
dealt side of account (Depth at price, r) = 0
dealt side of account (Account own, r) = 0

-- each account bought what was taken from its buy orders and what it took from sell orders, and sold what was taken
-- from its sell orders and what it took from buy orders
abbrev pub EachAccountAddsUp : Type 0
EachAccountAddsUp = (cs : List Command) (account : ℕ) → IsDay cs
    → (bought (closing cs) account ≡ sum_by (dealt Buy (is_placed_for cs account) account) (answered cs))
    × (sold (closing cs) account ≡ sum_by (dealt Sell (is_placed_for cs account) account) (answered cs))

-- the reply is of what was taken: its parts add up to that, and with what remains to the quantity
abbrev pub AddsUpTo : ℕ → BookReply → Type 0
AddsUpTo quantity reply.Placed = ⊥
AddsUpTo quantity (reply.Cancelled left) = ⊥
AddsUpTo quantity reply.Gone = ⊥
AddsUpTo quantity reply.Killed = ⊥
AddsUpTo quantity (reply.Filled taken rest count parts) =
    (sum_by (λ p. p.taken) parts ≡ taken) × (taken + rest ≡ quantity)
AddsUpTo quantity (reply.Depth depth) = ⊥
AddsUpTo quantity (reply.Account bought sold) = ⊥

-- the sums that a fill or a kill and its reply tell agree
abbrev pub AddsUp : Command × BookReply → Type 0
AddsUp (Place name account side price quantity, r) = Unit {0}
AddsUp (Cancel name, r) = Unit {0}
AddsUp (Fill account side price quantity places, r) = AddsUpTo quantity r
AddsUp (Kill account side price quantity places, r) = (r ≡ reply.Killed) ⊎ AddsUpTo quantity r
AddsUp (Depth side price, r) = Unit {0}
AddsUp (Account account, r) = Unit {0}

abbrev pub FillsAddUp : Type 0
FillsAddUp = (cs : List Command) → All AddsUp (answered cs)

-- a kill takes nothing, or its whole quantity
abbrev pub IsWhole : Command × BookReply → Type 0
IsWhole (Place name account side price quantity, r) = Unit {0}
IsWhole (Cancel name, r) = Unit {0}
IsWhole (Fill account side price quantity places, r) = Unit {0}
IsWhole (Kill account side price quantity places, r) = (r ≡ reply.Killed) ⊎ (told_taken r ≡ quantity)
IsWhole (Depth side price, r) = Unit {0}
IsWhole (Account account, r) = Unit {0}

abbrev pub KillsAreWhole : Type 0
KillsAreWhole = (cs : List Command) → IsDay cs → All IsWhole (answered cs)
