-- When a matching command is in range, and when it fits.
use Rattle.std.specs.Prelude.{◌≤◌, ℕ}
use Rattle.md_book.specs.declared.maps.TheConstants.{LEVELS}
use Rattle.md_book.specs.Book.{IsPrice}
use Rattle.md_book.specs.Commands.{IsName, IsPlace}
use Rattle.md_match.specs.declared.commands.MatchCommand.{MatchCommand}
use Rattle.md_match.specs.declared.commands.MatchCommand.TheVariants.{Match, Cancel, Depth}
use Rattle.md_match.specs.declared.maps.TheConstants.{MATCH_MAPS}

-- a command's numbers are in their ranges
abbrev pub IsMatchCommand : MatchCommand → Type 0
IsMatchCommand (Match name account side price quantity) = IsPlace name account price quantity
IsMatchCommand (Cancel name) = IsName name
IsMatchCommand (Depth side price) = IsPrice price

-- the command is in range, and there are maps and queues enough
pub record FitsMatch (c : MatchCommand) (maps queues : ℕ) : Type 0 where
  pub command : IsMatchCommand c
  pub maps_enough : MATCH_MAPS ≤ maps
  pub queues_enough : LEVELS ≤ queues
