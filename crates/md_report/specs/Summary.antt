-- The summary: how many commands there were, and what they placed, cancelled, filled and left open.
use Rattle.std.specs.Prelude.{ℕ, zero, suc, ◌+◌, ◌≤◌, Option, Some, List, ◌++◌, length, codes, decimal}
use Rattle.std.specs.Option.{option_map_or}
use Rattle.md_history.specs.State.{State}
use Rattle.md_book.specs.declared.commands.Side.{Side}
use Rattle.md_book.specs.declared.commands.Side.TheVariants.{Buy, Sell}
use Rattle.md_book.specs.declared.commands.Command.{Command}
use Rattle.md_book.specs.declared.commands.Command.TheVariants.{Place}
use Rattle.md_book.specs.declared.commands.BookReply.{BookReply}
use Rattle.md_book.specs.declared.limits.TheConstants.{MAX_PRICE}
use Rattle.md_book.specs.declared.maps.TheConstants.{DEPTHS}
use Rattle.md_book.specs.Book.{Book, level_of, depth}
use Rattle.md_book.specs.Trading.{told_cancelled, told_taken}
use Rattle.md_report.specs.declared.sums.Totals.{Totals}
use Rattle.md_orders.specs.Scripts.{list_of, at_line, count_of}
use Rattle.md_report_replies.specs.Replies.{reply_at}
use Rattle.md_report.specs.Report.{value_at}

-- the quantity that a command places
abbrev pub quantity_placed : Option Command → ℕ
quantity_placed (Some (Place name account side price quantity)) = quantity
quantity_placed _ = 0

-- the quantity that a reply tells as cancelled
abbrev pub quantity_cancelled : Option BookReply → ℕ
quantity_cancelled r = option_map_or told_cancelled r 0

-- the quantity that a reply tells as filled
abbrev pub quantity_filled : Option BookReply → ℕ
quantity_filled r = option_map_or told_taken r 0

-- what a line placed, cancelled and filled
abbrev pub line_totals : List (List Command) → List (List (Option BookReply)) → ℕ → ℕ → Totals
line_totals scripts replies caller line = record {
  placed = quantity_placed (at_line scripts caller line);
  cancelled = quantity_cancelled (reply_at replies caller line);
  filled = quantity_filled (reply_at replies caller line);
}

-- nothing
abbrev pub no_totals : Totals
no_totals = record { placed = 0; cancelled = 0; filled = 0 }

-- two of them in one
abbrev pub both_totals : Totals → Totals → Totals
both_totals t u = record {
  placed = t.placed + u.placed;
  cancelled = t.cancelled + u.cancelled;
  filled = t.filled + u.filled;
}

-- none of the three is greater than a number
pub record AreAtMost (n : ℕ) (t : Totals) : Type 0 where
  pub placed : t.placed ≤ n
  pub cancelled : t.cancelled ≤ n
  pub filled : t.filled ≤ n

-- the totals of 1 to n, added up
unfoldable pub totals_to : ℕ → (ℕ → Totals) → Totals
totals_to zero of = no_totals
totals_to (suc n) of = both_totals (totals_to n of) (of (suc n))

-- those of a caller's lines
abbrev pub script_totals : List (List Command) → List (List (Option BookReply)) → ℕ → Totals
script_totals scripts replies caller = totals_to (length (list_of scripts caller)) (line_totals scripts replies caller)

-- those of every caller's
abbrev pub all_totals : List (List Command) → List (List (Option BookReply)) → Totals
all_totals scripts replies = totals_to (length scripts) (script_totals scripts replies)

-- the sum of the values of 1 to n
unfoldable pub sum_to : ℕ → (ℕ → ℕ) → ℕ
sum_to zero value = 0
sum_to (suc n) value = sum_to n value + value (suc n)

-- what is left open at the levels of a side
abbrev pub open_at : Side → Book → ℕ
open_at side b = sum_to MAX_PRICE (λ price. depth b (level_of side price))

-- the same, from the map of depths
abbrev pub open_at_of : Side → State → ℕ
open_at_of side s = sum_to MAX_PRICE (λ price. value_at s DEPTHS (level_of side price))

-- made N placed P cancelled X filled F open O
abbrev pub summary_line : ℕ → Totals → ℕ → List ℕ
summary_line count t left =
    codes "made " ++ decimal count ++ codes " placed " ++ decimal t.placed ++ codes " cancelled " ++ decimal t.cancelled
    ++ codes " filled " ++ decimal t.filled ++ codes " open " ++ decimal left ++ codes "\n"

-- the line of the replies and of the book
abbrev pub summary_text : List (List Command) → List (List (Option BookReply)) → Book → List ℕ
summary_text scripts replies b =
    summary_line (count_of scripts) (all_totals scripts replies) (open_at Buy b + open_at Sell b)

-- the same line, from the maps
abbrev pub summary_text_of : List (List Command) → List (List (Option BookReply)) → State → List ℕ
summary_text_of scripts replies s =
    summary_line (count_of scripts) (all_totals scripts replies) (open_at_of Buy s + open_at_of Sell s)
