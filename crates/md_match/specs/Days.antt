-- Worked examples: days of matching with the replies that the book gives.
use Rattle.std.specs.Prelude.{◌≡◌, ℕ, ◌+◌, ◌^◌, List, [], ◌∷◌}
use Rattle.md_book.specs.declared.commands.Side.TheVariants.{Buy, Sell}
use Rattle.md_book.specs.Book.{empty_book}
use Rattle.md_match.specs.declared.commands.MatchCommand.{MatchCommand}
use Rattle.md_match.specs.declared.commands.MatchCommand.TheVariants.{Match, Cancel, Depth}
use Rattle.md_match.specs.declared.commands.At.{At}
use Rattle.md_match.specs.declared.commands.MatchReply.{MatchReply}
use Rattle.md_match.specs.declared.commands.MatchReply.TheVariants as reply
use Rattle.md_match.specs.Matching.{matched, match_replies}

-- the name of the order of caller 1 at a line
abbrev pub line : ℕ → ℕ
line n = 2 ^ 32 + n

-- from the order of caller 1 at a line so much was taken, at a price
abbrev pub part : ℕ → ℕ → ℕ → At
part n taken price = record { name = line n; price = price; taken = taken }

-- commands from the book without orders on are answered so
abbrev pub AreAnswered : List MatchCommand → List MatchReply → Type 0
AreAnswered cs rs = match_replies empty_book cs ≡ rs

-- a day of ten lines: two orders rest at 100 and are taken before the one at 101; the buy at 99 rests until somebody
-- sells at 98; nobody takes from a cancelled order; and what remains at 102 rests there
abbrev pub TenLines : Type 0
TenLines = AreAnswered
    (Match (line 1) 7 Sell 101 2 ∷ Match (line 2) 7 Sell 100 1 ∷ Match (line 3) 8 Sell 100 1 ∷ Match (line 4) 8 Sell 102 5
    ∷ Match (line 5) 9 Buy 101 3 ∷ Match (line 6) 9 Buy 99 4 ∷ Match (line 7) 7 Sell 98 6 ∷ Cancel (line 1)
    ∷ Match (line 9) 8 Buy 102 9 ∷ Depth Buy 102 ∷ [])
    (matched [] 2 0 ∷ matched [] 1 0 ∷ matched [] 1 0 ∷ matched [] 5 0
    ∷ matched (part 2 1 100 ∷ part 3 1 100 ∷ part 1 1 101 ∷ []) 0 0 ∷ matched [] 4 0
    ∷ matched (part 6 4 99 ∷ []) 2 0 ∷ reply.Cancelled 1
    ∷ matched (part 7 2 98 ∷ part 4 5 102 ∷ []) 2 0 ∷ reply.Depth 2 ∷ [])

-- a match looks at four places: what remains is dropped, since the fifth order could still be taken from
abbrev pub FiveOrders : Type 0
FiveOrders = AreAnswered
    (Match (line 1) 7 Sell 100 1 ∷ Match (line 2) 7 Sell 100 1 ∷ Match (line 3) 7 Sell 100 1 ∷ Match (line 4) 7 Sell 100 1
    ∷ Match (line 5) 7 Sell 100 1 ∷ Match (line 6) 8 Buy 100 6 ∷ [])
    (matched [] 1 0 ∷ matched [] 1 0 ∷ matched [] 1 0 ∷ matched [] 1 0 ∷ matched [] 1 0
    ∷ matched (part 1 1 100 ∷ part 2 1 100 ∷ part 3 1 100 ∷ part 4 1 100 ∷ []) 0 2 ∷ [])

-- a cancelled order's place is one of the four
abbrev pub DeadPlaces : Type 0
DeadPlaces = AreAnswered
    (Match (line 1) 7 Sell 100 1 ∷ Match (line 2) 7 Sell 100 1 ∷ Match (line 3) 7 Sell 100 1 ∷ Match (line 4) 7 Sell 100 1
    ∷ Match (line 5) 7 Sell 100 2 ∷ Cancel (line 1) ∷ Cancel (line 2) ∷ Cancel (line 3) ∷ Match (line 9) 8 Buy 100 3 ∷ [])
    (matched [] 1 0 ∷ matched [] 1 0 ∷ matched [] 1 0 ∷ matched [] 1 0 ∷ matched [] 2 0
    ∷ reply.Cancelled 1 ∷ reply.Cancelled 1 ∷ reply.Cancelled 1 ∷ matched (part 4 1 100 ∷ []) 0 2 ∷ [])

-- these days
pub record AreWorkedDays : Type 0 where
  pub ten_lines : TenLines
  pub five_orders : FiveOrders
  pub dead_places : DeadPlaces
