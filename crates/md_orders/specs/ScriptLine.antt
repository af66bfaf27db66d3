-- A record that keeps the grammar, at its caller's next line.
use Rattle.std.specs.Prelude.{◌≡◌, ◌≤◌, ◌+◌, ℕ, true, Some, List, length}
use Rattle.md_book.specs.declared.commands.Command.{Command}
use Rattle.md_book.specs.Commands.{IsCommand, name_of}
use Rattle.md_orders.specs.declared.version.Version.{Version}
use Rattle.md_orders.specs.Records.{Row}
use Rattle.md_orders.specs.Grammar.{caller_of, command_of, keeps}
use Rattle.md_orders.specs.Scripts.{list_of, IsNamed}

-- the name that an order at a caller's next line gets
abbrev pub next_name : List (List Command) → ℕ → ℕ
next_name scripts caller = name_of caller (length (list_of scripts caller) + 1)

-- a record keeps the grammar, and writes this caller and this command, whose order is named by the caller's next line
pub record IsScriptLine (version : Version) (callers : ℕ) (row : Row) (scripts : List (List Command))
    (caller : ℕ) (command : Command) : Type 0 where
  pub caller_is : caller_of version callers row ≡ Some caller
  pub caller_low : 1 ≤ caller
  pub caller_high : caller ≤ callers
  pub command_is : command_of version (next_name scripts caller) row ≡ Some command
  pub good : keeps version callers row ≡ true
  pub in_range : IsCommand command
  pub named : IsNamed (next_name scripts caller) command
