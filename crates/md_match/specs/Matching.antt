-- What a matching command does to the order book and answers.
use Rattle.std.specs.Prelude.{ℕ, zero, suc, ◌+◌, ◌-◌, ◌==◌, ◌&&◌, nat_lt, nat_le, Bool, if◌then◌else◌, is_none}
use Rattle.std.specs.Prelude.{List, [], ◌∷◌, ◌++◌, Option, Some, None, find, map, length, replicate, sum_by}
use Rattle.std.specs.List.{range_with_len}
use Rattle.md_book.specs.declared.commands.Side.{Side}
use Rattle.md_book.specs.declared.commands.Side.TheVariants.{Buy, Sell}
use Rattle.md_book.specs.declared.commands.Part.{Part}
use Rattle.md_book.specs.declared.limits.TheConstants.{MAX_PRICE}
use Rattle.md_book.specs.Book.{Order, Book, level_of, depth, find_open, place_step, cancel_step, Looked, look}
use Rattle.md_match.specs.declared.commands.MatchCommand.{MatchCommand}
use Rattle.md_match.specs.declared.commands.MatchCommand.TheVariants.{Match, Cancel, Depth}
use Rattle.md_match.specs.declared.commands.At.{At}
use Rattle.md_match.specs.declared.commands.MatchReply.{MatchReply}
use Rattle.md_match.specs.declared.commands.MatchReply.TheVariants as reply
use Rattle.md_match.specs.declared.limits.TheConstants.{MAX_LOOKS}

-- the side that an order of a side takes from
abbrev pub opposite : Side → Side
opposite Buy = Sell
opposite Sell = Buy

-- whether a price is as good as the limit of an order, or better: a buy pays no more, a sell gets no less
abbrev pub reaches : Side → ℕ → ℕ → Bool
reaches Buy limit price = nat_le price limit
reaches Sell limit price = nat_le limit price

-- the prices that reach the limit of an order, the best first: for a buy they rise from the lowest, for a sell they
-- fall from the highest
abbrev pub prices_by_limit : Side → ℕ → List ℕ
prices_by_limit Buy limit = range_with_len 1 limit
prices_by_limit Sell limit = map (λ below. MAX_PRICE - below) (range_with_len 0 (MAX_PRICE + 1 - limit))

-- the best price at which an order of a side and a limit can take: the first of these at which the other side has depth
abbrev pub best_price : Book → Side → ℕ → Option ℕ
best_price b side limit =
    find (λ price. nat_lt 0 (depth b (level_of (opposite side) price))) (prices_by_limit side limit)

-- what looks at the best levels come to: the book after them, what remains to be taken, and what was taken from which
-- order at which price
pub record Swept : Type 0 where
  pub book : Book
  pub rest : ℕ
  pub parts : List At

abbrev pub swept : Book → ℕ → Swept
swept b rest = record { book = b; rest = rest; parts = [] }

abbrev pub at_price : ℕ → Part → At
at_price price part = record { name = part.name; price = price; taken = part.taken }

-- what a look at a level of a price took, and then what later looks take
abbrev pub look_then : ℕ → Looked → (Book → ℕ → Swept) → Swept
look_then price l more =
    record (more l.book l.rest) { parts = map (at_price price) l.parts ++ (more l.book l.rest).parts }

-- a look at the first place of the level of the best price, if there is one
abbrev pub look_best : ℕ → Side → Option ℕ → Book → ℕ → (Book → ℕ → Swept) → Swept
look_best account side None b rest more = swept b rest
look_best account side (Some price) b rest more =
    look_then price (look (level_of (opposite side) price) account 1 b rest) more

-- looks at up to so many places, each the first one of the best level at that time, as long as something remains
unfoldable pub sweep : ℕ → Side → ℕ → ℕ → Book → ℕ → Swept
sweep account side limit zero b rest = swept b rest
sweep account side limit (suc looks) b rest =
    if rest == 0
    then swept b rest
    else look_best account side (best_price b side limit) b rest (sweep account side limit looks)

-- the book after a command, and its reply
pub record MatchStep : Type 0 where
  pub book : Book
  pub reply : MatchReply

abbrev pub taken_in : List At → ℕ
taken_in parts = sum_by (λ p. p.taken) parts

-- as many parts as a reply has room for, those past the ones that there are being zero
abbrev pub padded : List At → List At
padded parts = parts ++ replicate (MAX_LOOKS - length parts) (record { name = 0; price = 0; taken = 0 })

abbrev pub matched : List At → ℕ → ℕ → MatchReply
matched parts placed dropped = reply.Matched (taken_in parts) placed dropped (length parts) (padded parts)

-- whether what remains of an order is placed: something remains, and there is no price left at which it can take
abbrev pub is_placed : Swept → Side → ℕ → Bool
is_placed s side limit = nat_lt 0 s.rest && is_none (best_price s.book side limit)

-- what remains of an order joins the book as an order of that quantity, or it is dropped
abbrev pub settle : Swept → Order → MatchStep
settle s o =
    if is_placed s o.side o.price
    then record {
      book = (place_step s.book (record o { left = s.rest })).book;
      reply = matched s.parts s.rest 0;
    }
    else record { book = s.book; reply = matched s.parts 0 s.rest }

-- of an open order nothing is left
abbrev pub cancel_match : Book → Option Order → MatchStep
cancel_match b None = record { book = b; reply = reply.Gone }
cancel_match b (Some o) = record { book = (cancel_step b (Some o)).book; reply = reply.Cancelled o.left }

abbrev pub match_step : Book → MatchCommand → MatchStep
match_step b (Match name account side price quantity) =
    settle (sweep account side price MAX_LOOKS b quantity)
    (record { name = name; account = account; side = side; price = price; left = quantity })
match_step b (Cancel name) = cancel_match b (find_open b name)
match_step b (Depth side price) = record { book = b; reply = reply.Depth (depth b (level_of side price)) }

-- the book after commands, in order
abbrev pub matched_after : Book → List MatchCommand → Book
matched_after b [] = b
matched_after b (c ∷ cs) = matched_after (match_step b c).book cs

-- the replies of commands, in order
abbrev pub match_replies : Book → List MatchCommand → List MatchReply
match_replies b [] = []
match_replies b (c ∷ cs) = (match_step b c).reply ∷ match_replies (match_step b c).book cs
