-- The generator: commands from a number, five draws for each. The draws are those of the example of rand in the C
-- standard of 1990.
use Rattle.std.specs.Prelude.{◌≡◌, ℕ, zero, suc, ◌+◌, ◌*◌, ◌/◌, ◌%◌, ◌^◌, ◌==◌, nat_le, Bool, if◌then◌else◌, List}
use Rattle.std.specs.Prelude.{length, map, filter}
use Rattle.std.specs.List.{enumerate_from, range_with_len}
use Rattle.md_book.specs.declared.commands.Side.TheVariants.{Buy, Sell}
use Rattle.md_book.specs.declared.commands.Command.{Command}
use Rattle.md_book.specs.declared.commands.Command.TheVariants.{Place, Cancel, Fill, Depth, Account}
use Rattle.md_book.specs.declared.limits.TheConstants.{PLACES_IN_VERSION_1}
use Rattle.md_book.specs.Commands.{name_of}
use Rattle.md_orders.specs.declared.generator.Draws.{Draws}
use Rattle.md_orders.specs.Scripts.{list_of}

-- the state that a draw leaves
abbrev pub next_state : ℕ → ℕ
next_state state = (state * 1103515245 + 12345) % 2 ^ 31

-- the state after so many draws
unfoldable pub state_after_draws : ℕ → ℕ → ℕ
state_after_draws state zero = state
state_after_draws state (suc n) = next_state (state_after_draws state n)

-- draw n from a state, counted from 0: the state that it leaves, without the low 16 bits
abbrev pub draw : ℕ → ℕ → ℕ
draw state n = state_after_draws state (suc n) / 2 ^ 16

-- the five draws of a command
abbrev pub draws_from : ℕ → Draws
draws_from state = record {
  kind = draw state 0;
  account = draw state 1;
  side = draw state 2;
  price = draw state 3;
  quantity = draw state 4;
}

-- those of command i, counted from 0, where the first state is the number
abbrev pub draws_of : ℕ → ℕ → Draws
draws_of number i = draws_from (state_after_draws number (5 * i))

-- the command of a kind that draws give at a caller's line
abbrev pub made_of_kind : ℕ → ℕ → Draws → ℕ → Command
made_of_kind caller line d kind =
    let account = 1000 * caller + d.account % 1000 in
    let side = if d.side % 2 == 0 then Buy else Sell in
    let price = 8 * (d.price % 10) + caller in
    let quantity = 1 + d.quantity % 100 in
    if kind == 0 then Account account
    else if kind == 1 then Depth side price
    else if kind == 2 then Cancel (name_of caller (1 + d.account % line))
    else if nat_le kind 4 then Fill account side price quantity PLACES_IN_VERSION_1
    else Place (name_of caller line) account side price quantity

-- of ten kinds one is Account, one Depth, one Cancel, two are Fill and five Place
abbrev pub made_command : ℕ → ℕ → Draws → Command
made_command caller line d = made_of_kind caller line d (d.kind % 10)

-- whether command i is this caller's: the callers take turns
abbrev pub is_made_by : ℕ → ℕ → ℕ → Bool
is_made_by callers caller i = i % callers + 1 == caller

-- a caller's script: its commands, each at its line
abbrev pub made_script : ℕ → ℕ → ℕ → ℕ → List Command
made_script number lines callers caller =
    map (λ numbered. made_command caller numbered.0 (draws_of number numbered.1))
    (enumerate_from 1 (filter (is_made_by callers caller) (range_with_len 0 lines)))

-- the scripts of so many commands made from a number
pub record AreMade (number lines callers : ℕ) (scripts : List (List Command)) : Type 0 where
  pub callers_are : length scripts ≡ callers
  pub each : (caller : ℕ) → list_of scripts caller ≡ made_script number lines callers caller
