-- A maker of commands: where it stands, and the command that it makes next.
use Rattle.std.specs.Prelude.{◌≡◌, ◌≤◌, ℕ, ◌+◌, ◌*◌, ◌/◌, ◌%◌}
use Rattle.md_book.specs.declared.commands.Command.{Command}
use Rattle.md_orders.specs.declared.generator.TheConstants.{MAX_MADE_CALLERS}
use Rattle.md_orders.specs.Generator.{state_after_draws, draws_of, made_command}

-- the number from which a maker makes commands, for how many callers, and how many it has made
pub record MakerAt : Type 0 where
  pub number : ℕ
  pub callers : ℕ
  pub made : ℕ

abbrev pub maker_at : ℕ → ℕ → ℕ → MakerAt
maker_at number callers made = record { number = number; callers = callers; made = made }

-- command i, counted from 0, with its caller and its line: the callers take turns, and each takes its next line
abbrev pub made_at : ℕ → ℕ → ℕ → ℕ × ℕ × Command
made_at number callers i =
    let caller = i % callers + 1 in
    let line = i / callers + 1 in
    (caller, line, made_command caller line (draws_of number i))

-- its generator has drawn five times for each command that was made, and there are callers, no more than may be
pub record IsMaker (at : MakerAt) (state : ℕ) : Type 0 where
  pub drawn : state ≡ state_after_draws at.number (5 * at.made)
  pub callers_low : 1 ≤ at.callers
  pub callers_high : at.callers ≤ MAX_MADE_CALLERS
