-- What is fed, by its plan.
use Rattle.std.specs.Prelude.{◌≤◌, List}
use Rattle.md_book.specs.declared.commands.Command.{Command}
use Rattle.md_orders.specs.Records.{max_records}
use Rattle.md_orders.specs.declared.generator.TheConstants.{MAX_MADE_CALLERS}
use Rattle.md_feed_lines.specs.declared.plan.Plan.{Plan}
use Rattle.md_feed_lines.specs.Made.{made_scripts}

-- so many lines can be made for so many callers
pub record CanBeMade (plan : Plan) : Type 0 where
  pub some_line : 1 ≤ plan.lines
  pub few_lines : plan.lines ≤ max_records
  pub some_caller : 1 ≤ plan.callers
  pub few_callers : plan.callers ≤ MAX_MADE_CALLERS

-- the scripts of the plan's commands
abbrev pub scripts_of : Plan → List (List Command)
scripts_of plan = made_scripts plan.number plan.callers plan.lines
