-- What a record writes: a caller and a command.
use Rattle.std.specs.Prelude.{ℕ, ◌+◌, ◌-◌, ◌*◌, nat_le, ◌==◌, ◌&&◌, Bool, if◌then◌else◌, min, List, [], ◌∷◌, length}
use Rattle.std.specs.Prelude.{Option, Some, None, is_some, option_and_then}
use Rattle.std.specs.Option.{option_map}
use Rattle.std.specs.Char.{is_ascii_digit}
use Rattle.csv.specs.Records.{field_at}
use Rattle.md_book.specs.declared.commands.Side.{Side}
use Rattle.md_book.specs.declared.commands.Side.TheVariants.{Buy, Sell}
use Rattle.md_book.specs.declared.commands.Command.{Command}
use Rattle.md_book.specs.declared.commands.Command.TheVariants.{Place, Cancel, Fill, Kill, Depth, Account}
use Rattle.md_book.specs.declared.limits.TheConstants.{MAX_SCRIPT_LINE, MAX_ACCOUNT, MAX_PRICE, MAX_QUANTITY}
use Rattle.md_book.specs.Commands.{name_of}
use Rattle.md_orders.specs.declared.grammar.Terms.{Terms}
use Rattle.md_orders.specs.declared.version.Version.{Version}
use Rattle.md_orders.specs.Records.{Row}
use Rattle.md_orders.specs.Version.{places_of, max_caller, file_of}

-- the number that ASCII digits write after a number that stands before them
unfoldable pub digits_after : ℕ → List ℕ → Option ℕ
digits_after n [] = Some n
digits_after n (c ∷ rest) = if is_ascii_digit c then digits_after (n * 10 + (c - 48)) rest else None

-- the number that a field writes: one to ten ASCII digits; zeros in front count for nothing
abbrev pub number : List ℕ → Option ℕ
number field = if nat_le 1 (length field) && nat_le (length field) 10 then digits_after 0 field else None

-- a number within a range
abbrev pub within : ℕ → ℕ → ℕ → Option ℕ
within low high n = if nat_le low n && nat_le n high then Some n else None

-- the number that a text writes, within a range
abbrev pub number_within : ℕ → ℕ → List ℕ → Option ℕ
number_within low high text = option_and_then (within low high) (number text)

-- the number in a record's field, within a range
abbrev pub number_at : Row → ℕ → ℕ → ℕ → Option ℕ
number_at row place low high = option_and_then (number_within low high) (field_at row place)

-- a field of one byte
abbrev pub one_byte : List ℕ → Option ℕ
one_byte [] = None
one_byte (c ∷ []) = Some c
one_byte (c ∷ d ∷ rest) = None

-- the byte of a field that has one
abbrev pub byte_at : Row → ℕ → Option ℕ
byte_at row place = option_and_then one_byte (field_at row place)

-- B writes buy and S writes sell
abbrev pub side_of : ℕ → Option Side
side_of c = if c == 66 then Some Buy else if c == 83 then Some Sell else None

-- the side that a field writes
abbrev pub side_at : Row → ℕ → Option Side
side_at row place = option_and_then side_of (byte_at row place)

-- an account, a price and a quantity, in their ranges
abbrev pub account_at : Row → ℕ → Option ℕ
account_at row place = number_at row place 1 MAX_ACCOUNT

abbrev pub price_at : Row → ℕ → Option ℕ
price_at row place = number_at row place 1 MAX_PRICE

abbrev pub quantity_at : Row → ℕ → Option ℕ
quantity_at row place = number_at row place 1 MAX_QUANTITY

-- account, side, price and quantity, after the caller and the kind
abbrev pub terms_of : Row → Option Terms
terms_of row =
    option_and_then (λ account. option_and_then (λ side. option_and_then (λ price. option_map (λ quantity.
    record { account = account; side = side; price = price; quantity = quantity })
    (quantity_at row 5)) (price_at row 4)) (side_at row 3)) (account_at row 2)

-- caller, P, account, side, price, quantity; the order gets the name
abbrev pub place_of : ℕ → Row → Option Command
place_of name row = option_map (λ t. Place name t.account t.side t.price t.quantity) (terms_of row)

-- caller, C, caller of the order, line of the order
abbrev pub cancel_of : Version → Row → Option Command
cancel_of version row =
    option_and_then (λ caller. option_map (λ line. Cancel (name_of caller line))
    (number_at row 3 1 MAX_SCRIPT_LINE)) (number_at row 2 1 (max_caller version))

-- caller, F, account, side, price, quantity
abbrev pub fill_of : Version → Row → Option Command
fill_of version row = option_map (λ t. Fill t.account t.side t.price t.quantity (places_of version)) (terms_of row)

-- caller, K, account, side, price, quantity
abbrev pub kill_of : Version → Row → Option Command
kill_of version row = option_map (λ t. Kill t.account t.side t.price t.quantity (places_of version)) (terms_of row)

-- caller, D, side, price
abbrev pub depth_of : Row → Option Command
depth_of row = option_and_then (λ side. option_map (λ price. Depth side price) (price_at row 3)) (side_at row 2)

-- caller, A, account
abbrev pub account_of : Row → Option Command
account_of row = option_map (λ account. Account account) (account_at row 2)

-- the command that a record writes, by its kind (P, C, F, K, D or A) and its number of fields; a placed order gets the
-- name
abbrev pub command_of_kind : Version → ℕ → Row → ℕ → Option Command
command_of_kind version name row kind =
    if (kind == 80) && (length row == 6) then place_of name row
    else if (kind == 67) && (length row == 4) then cancel_of version row
    else if (kind == 70) && (length row == 6) then fill_of version row
    else if (kind == 75) && (length row == 6) then kill_of version row
    else if (kind == 68) && (length row == 4) then depth_of row
    else if (kind == 65) && (length row == 3) then account_of row
    else None

-- the command that a record writes
unfoldable pub command_of : Version → ℕ → Row → Option Command
command_of version name row = option_and_then (command_of_kind version name row) (byte_at row 1)

-- the caller of a record: one of those that there are, within the version's range
unfoldable pub caller_of : Version → ℕ → Row → Option ℕ
caller_of version callers row = number_at row 0 1 (min callers (max_caller version))

-- a record keeps the grammar where it writes a caller and a command, whatever name an order of it gets
abbrev pub keeps : Version → ℕ → Row → Bool
keeps version callers row = is_some (caller_of version callers row) && is_some (command_of version 0 row)

-- the number, counted from n, of the first line's record that breaks the grammar
abbrev pub first_bad_line : Version → ℕ → ℕ → List Row → Option ℕ
first_bad_line version callers n [] = None
first_bad_line version callers n (row ∷ rows) =
    if keeps version callers row then first_bad_line version callers (n + 1) rows else Some n

-- the number, counted from 1, of a file's first record that breaks the grammar
abbrev pub first_bad : ℕ → List Row → Option ℕ
first_bad callers rows = let file = file_of rows in first_bad_line file.version callers file.first file.lines
