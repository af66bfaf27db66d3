-- The scripts of two parts of a file, of which the second follows the first.
use Rattle.std.specs.Prelude.{◌≡◌, ◌+◌, ℕ, List, ◌++◌, length}
use Rattle.md_book.specs.declared.commands.Command.{Command}
use Rattle.md_orders.specs.Scripts.{list_of, count_of}
use Rattle.md_orders.specs.Renamed.{renamed_from}

-- a caller's script in the first part, and behind it that in the second
abbrev pub joined : ℕ → List Command → List Command → List Command
joined caller first second = first ++ renamed_from caller (length first + 1) second

-- scripts to which those of the second part were added
pub record AreJoined (first second new : List (List Command)) : Type 0 where
  pub number : length new ≡ length first
  pub each : (caller : ℕ)
      → list_of new caller ≡ joined caller (list_of first caller) (list_of second caller)
  pub count : count_of new ≡ count_of first + count_of second
