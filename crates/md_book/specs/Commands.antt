-- The script of each command, and when a command fits.
use Rattle.std.specs.Prelude.{◌≡◌, ◌⊎◌, ℕ, ◌+◌, ◌*◌, ◌/◌, ◌%◌, ◌^◌, ◌≤◌}
use Rattle.md_history.specs.Script.{Script}
use Rattle.md_book.specs.declared.commands.Command.{Command}
use Rattle.md_book.specs.declared.commands.Command.TheVariants.{Place, Cancel, Fill, Kill, Depth, Account}
use Rattle.md_book.specs.declared.commands.BookReply.{BookReply}
use Rattle.md_book.specs.declared.limits.TheConstants.{PLACES_IN_VERSION_1, PLACES_IN_VERSION_2, MAX_CALLER, MAX_SCRIPT_LINE}
use Rattle.md_book.specs.declared.limits.TheConstants.{MAX_QUANTITY}
use Rattle.md_book.specs.declared.maps.TheConstants.{MAPS, LEVELS}
use Rattle.md_book.specs.Book.{IsAccount, IsPrice}
use Rattle.md_book.specs.Scripts.{place, cancel, look_depth, look_account}
use Rattle.md_book.specs.Filling.{fill}
use Rattle.md_book.specs.Killing.{kill}

abbrev pub script_of : Command → Script BookReply
script_of (Place name account side price quantity) = place name account side price quantity
script_of (Cancel name) = cancel name
script_of (Fill account side price quantity places) = fill account side price quantity places
script_of (Kill account side price quantity places) = kill account side price quantity places
script_of (Depth side price) = look_depth side price
script_of (Account account) = look_account account

-- the name of the order that a caller places at a line
abbrev pub name_of : ℕ → ℕ → ℕ
name_of caller line = caller * 2 ^ 32 + line

-- a name is that of a caller and a line in their ranges
pub record IsName (name : ℕ) : Type 0 where
  pub caller_low : 1 ≤ name / 2 ^ 32
  pub caller_high : name / 2 ^ 32 ≤ MAX_CALLER
  pub line_low : 1 ≤ name % 2 ^ 32
  pub line_high : name % 2 ^ 32 ≤ MAX_SCRIPT_LINE

-- an account, a price and a quantity are in their ranges
pub record IsOffer (account price quantity : ℕ) : Type 0 where
  pub in_range : IsAccount account
  pub priced : IsPrice price
  pub quantity_low : 1 ≤ quantity
  pub quantity_high : quantity ≤ MAX_QUANTITY

pub record IsPlace (name account price quantity : ℕ) : Type 0 where
  pub named : IsName name
  pub offer : IsOffer account price quantity

-- the places are those of a version of the order file
abbrev pub IsPlaces : ℕ → Type 0
IsPlaces places = (places ≡ PLACES_IN_VERSION_1) ⊎ (places ≡ PLACES_IN_VERSION_2)

pub record IsFill (account price quantity places : ℕ) : Type 0 where
  pub offer : IsOffer account price quantity
  pub looks : IsPlaces places

-- a command's numbers are in their ranges
abbrev pub IsCommand : Command → Type 0
IsCommand (Place name account side price quantity) = IsPlace name account price quantity
IsCommand (Cancel name) = IsName name
IsCommand (Fill account side price quantity places) = IsFill account price quantity places
IsCommand (Kill account side price quantity places) = IsFill account price quantity places
IsCommand (Depth side price) = IsPrice price
IsCommand (Account account) = IsAccount account

-- the command is in range, and there are maps and queues enough
pub record FitsBook (c : Command) (maps queues : ℕ) : Type 0 where
  pub command : IsCommand c
  pub maps_enough : MAPS ≤ maps
  pub queues_enough : LEVELS ≤ queues
