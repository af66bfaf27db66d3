-- Looking up a depth or an account's sums is one step of the book.
use Rattle.std.proofs.Common.{ℕ, ap, ◌∙◌, arith}
use Rattle.std.specs.FinMap as fin
use Rattle.md_history.specs.declared.acts.Reply.TheVariants.{Value}
use Rattle.md_history.specs.State.{State, map_at}
use Rattle.md_book.specs.declared.commands.Side.{Side}
use Rattle.md_book.specs.declared.commands.Command.TheVariants.{Depth, Account}
use Rattle.md_book.specs.declared.commands.BookReply.TheVariants as reply
use Rattle.md_book.specs.declared.maps.TheConstants.{BOUGHT, DEPTHS, SOLD}
use Rattle.md_book.specs.Book.{Book, level_of, depth, bought, sold}
use Rattle.md_book.specs.Stands.{unless_0, Shows}
use Rattle.md_book.specs.Scripts.{value_or_0}
use Rattle.md_book.proofs.books.Raises.{value_or_0-unless_0}
use Rattle.md_book.proofs.steps.Costs.{few-cost, costs-get, costs-append}
use Rattle.md_book.proofs.steps.Stepping.{MakesStep}

module _ (s : State) (b : Book) (shows : Shows s b) where
  pub depth-steps : (side : Side) (price : ℕ) → MakesStep s b (Depth side price)
  depth-steps side price =
      let level = level_of side price in
      record {
        replied = ap (λ o. reply.Depth (value_or_0 (Value o))) (shows.depths level) ∙ ap reply.Depth (value_or_0-unless_0 (depth b level));
        shows = shows;
        few = few-cost (costs-get 0 DEPTHS level (fin.get (map_at s DEPTHS) level)) (omega arith) (omega arith) (omega arith);
      }

  pub account-steps : (account : ℕ) → MakesStep s b (Account account)
  account-steps account = record {
    replied =
        ap (λ o. reply.Account (value_or_0 (Value o)) (value_or_0 (Value (fin.get (map_at s SOLD) account)))) (shows.bought account)
        ∙ ap (λ o. reply.Account (value_or_0 (Value (unless_0 (bought b account)))) (value_or_0 (Value o))) (shows.sold account)
        ∙ ap (λ n. reply.Account n (value_or_0 (Value (unless_0 (sold b account))))) (value_or_0-unless_0 (bought b account))
        ∙ ap (reply.Account (bought b account)) (value_or_0-unless_0 (sold b account));
    shows = shows;
    few = few-cost (costs-append (costs-get 0 BOUGHT account (fin.get (map_at s BOUGHT) account)) (costs-get 0 SOLD account (fin.get (map_at s SOLD) account))) (omega arith) (omega arith) (omega arith);
  }
