-- Commands whose orders get the names of their lines.
use Rattle.std.specs.Prelude.{◌+◌, ℕ, List, [], ◌∷◌}
use Rattle.md_book.specs.declared.commands.Command.{Command}
use Rattle.md_book.specs.declared.commands.Command.TheVariants.{Place, Cancel, Fill, Kill, Depth, Account}
use Rattle.md_book.specs.Commands.{name_of}

-- a command with another name for the order that it places, if it places one
abbrev pub renamed : ℕ → Command → Command
renamed name (Place n account side price quantity) = Place name account side price quantity
renamed name (Cancel order) = Cancel order
renamed name (Fill account side price quantity places) = Fill account side price quantity places
renamed name (Kill account side price quantity places) = Kill account side price quantity places
renamed name (Depth side price) = Depth side price
renamed name (Account account) = Account account

-- a caller's commands from a line on, where an order gets the name of its line
abbrev pub renamed_from : ℕ → ℕ → List Command → List Command
renamed_from caller line [] = []
renamed_from caller line (c ∷ cs) = renamed (name_of caller line) c ∷ renamed_from caller (line + 1) cs

-- lists of commands as the scripts of callers, of whom the first has this number: an order gets the name of its caller and line
abbrev pub scripts_from : ℕ → List (List Command) → List (List Command)
scripts_from caller [] = []
scripts_from caller (cs ∷ lists) = renamed_from caller 1 cs ∷ scripts_from (caller + 1) lists
