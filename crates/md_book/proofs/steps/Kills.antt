-- A kill is a fill, or changes nothing.
use Rattle.std.proofs.Common.{ℕ, true, false, cond}
use Rattle.std.specs.Prelude.{nat_le}
use Rattle.md_book.specs.declared.commands.BookReply.TheVariants as reply
use Rattle.md_book.specs.Book.{Book, BookStep, left_within, fill_step, kill_step}

-- what holds of the fill and if nothing changes holds of the kill
pub kill-either : (b : Book) (account level quantity places : ℕ) (P : BookStep → Type 0) → P (fill_step b account level quantity places) → P (record { book = b; reply = reply.Killed })
    → P (kill_step b account level quantity places)
kill-either b account level quantity places P filled killed =
    elim (nat_le quantity (left_within b level places)) as (λ enough. P (cond enough (fill_step b account level quantity places) (record { book = b; reply = reply.Killed }))) [
      | true ↦ filled
      | false ↦ killed
    ]
