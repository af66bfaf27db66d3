-- That a matching book is never crossed.
use Rattle.std.specs.Prelude.{◌<◌, ℕ, List, All}
use Rattle.md_book.specs.declared.commands.Side.TheVariants.{Buy, Sell}
use Rattle.md_book.specs.Book.{Book, IsPrice, empty_book, level_of, depth}
use Rattle.md_match.specs.declared.commands.MatchCommand.{MatchCommand}
use Rattle.md_match.specs.Matching.{match_step, matched_after}
use Rattle.md_match.specs.Commands.{IsMatchCommand}

-- whoever wants to buy bids less than whoever wants to sell asks
abbrev pub IsUncrossed : Book → Type 0
IsUncrossed b = (bid ask : ℕ) → IsPrice bid → IsPrice ask
    → 0 < depth b (level_of Buy bid) → 0 < depth b (level_of Sell ask) → bid < ask

-- a command in range leaves a book uncrossed
abbrev pub StaysUncrossed : Type 0
StaysUncrossed = (b : Book) (c : MatchCommand) → IsMatchCommand c → IsUncrossed b → IsUncrossed (match_step b c).book

-- the book is uncrossed after all commands in range, from the book without orders on
abbrev pub NeverCrossed : Type 0
NeverCrossed = (cs : List MatchCommand) → All IsMatchCommand cs → IsUncrossed (matched_after empty_book cs)
