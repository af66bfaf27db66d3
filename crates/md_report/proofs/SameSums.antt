-- What follows the replies in a report is a function of the sums alone.
use Rattle.std.proofs.Common.{◌≡◌, ◌∙◌, ◌++◌, ℕ, ap}
use Rattle.std.specs.Prelude.{unwrap_or}
use Rattle.std.specs.FinMap as fin
use Rattle.md_history.specs.State.{State, Table}
use Rattle.md_book.specs.declared.commands.Side.{Side}
use Rattle.md_book.specs.declared.commands.Side.TheVariants.{Buy, Sell}
use Rattle.md_book.specs.declared.limits.TheConstants.{MAX_ACCOUNT, MAX_PRICE}
use Rattle.md_book.specs.declared.maps.TheConstants.{BOUGHT, SOLD}
use Rattle.md_book.specs.Book.{level_of}
use Rattle.md_report.specs.Report.{texts_to, level_text, account_text, done_text, value_at, levels_text_of, accounts_text_of, after_replies_text_of}
use Rattle.md_report.specs.Sums.{HaveSameSums}

-- the value of a key in a map, or 0
abbrev value_in : Table → ℕ → ℕ
value_in t key = unwrap_or (fin.get t key) 0

-- the levels of a side
levels-same : (part whole : State) (side : Side) → HaveSameSums part whole → levels_text_of side part ≡ levels_text_of side whole
levels-same part whole side same =
    ap (λ (t : Table). texts_to MAX_PRICE (λ price. level_text side price (value_in t (level_of side price)))) same.depths

-- the accounts
accounts-same : (part whole : State) → HaveSameSums part whole → accounts_text_of part ≡ accounts_text_of whole
accounts-same part whole same =
    ap (λ (t : Table). texts_to MAX_ACCOUNT (λ account. account_text account (value_in t account) (value_at part SOLD account))) same.bought
    ∙ ap (λ (t : Table). texts_to MAX_ACCOUNT (λ account. account_text account (value_at whole BOUGHT account) (value_in t account))) same.sold

-- both, and the number of lines
pub after_replies-same : (part whole : State) (count : ℕ) → HaveSameSums part whole
    → after_replies_text_of part count ≡ after_replies_text_of whole count
after_replies-same part whole count same =
    ap (λ t. t ++ levels_text_of Sell part ++ accounts_text_of part ++ done_text count) (levels-same part whole Buy same)
    ∙ ap (λ t. levels_text_of Buy whole ++ t ++ accounts_text_of part ++ done_text count) (levels-same part whole Sell same)
    ∙ ap (λ t. levels_text_of Buy whole ++ levels_text_of Sell whole ++ t ++ done_text count) (accounts-same part whole same)
