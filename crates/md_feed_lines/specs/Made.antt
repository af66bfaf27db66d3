-- The scripts of a maker's commands.
use Rattle.std.specs.Prelude.{◌≡◌, ◌*◌, ◌+◌, ◌-◌, ◌++◌, ℕ, zero, suc, List, [], ◌∷◌, replicate}
use Rattle.md_book.specs.declared.commands.Command.{Command}
use Rattle.md_orders.specs.Scripts.{list_of, with_list}
use Rattle.md_orders.specs.Maker.{made_at}

-- scripts with a command more, behind those of its caller
abbrev pub with_command : List (List Command) → ℕ × ℕ × Command → List (List Command)
with_command scripts made = with_list scripts made.0 (list_of scripts made.0 ++ made.2 ∷ [])

-- the scripts of the first so many commands that are made from a number for so many callers
unfoldable pub made_scripts : ℕ → ℕ → ℕ → List (List Command)
made_scripts number callers zero = replicate callers []
made_scripts number callers (suc i) = with_command (made_scripts number callers i) (made_at number callers i)

-- how many commands are made before a caller's line, which is counted from 0
abbrev pub before_line : ℕ → ℕ → ℕ → ℕ
before_line callers caller n = n * callers + (caller - 1)
