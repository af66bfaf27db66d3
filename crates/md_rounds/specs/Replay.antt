-- That replies and book are those of one thread which runs the committed commands in the order in which they became
-- ready.
use Rattle.std.specs.Prelude.{◌≡◌, ◌≤◌, ◌+◌, ℕ, ◌/◌, ◌%◌, ◌^◌, Option, Some, List, [], ◌∷◌, length}
use Rattle.std.specs.List.{filter_map}
use Rattle.md_history.specs.declared.entries.Entry.{Entry}
use Rattle.md_history.specs.State.{State, empty_state}
use Rattle.md_history.specs.Front.{Front}
use Rattle.md_history.specs.Script.{Did}
use Rattle.md_book.specs.declared.commands.Command.{Command}
use Rattle.md_book.specs.declared.commands.BookReply.{BookReply}
use Rattle.md_book.specs.Book.{Book, empty_book, book_after, replies_to}
use Rattle.md_book.specs.declared.maps.TheConstants.{MAPS, LEVELS}
use Rattle.md_book.specs.Commands.{script_of}
use Rattle.md_book.specs.Trading.{IsDay}
use Rattle.md_orders.specs.Scripts.{at_line, count_of}
use Rattle.md_report_replies.specs.Replies.{reply_at}
use Rattle.md_many.specs.Tags.{IsInterleaving}
pub use Rattle.md_many.specs.Played.{committed_of, AreDecidedAndLegal, tags_of}
use Rattle.md_rounds.specs.OrderLines.{line_count_of}

-- the state without orders
abbrev pub no_orders : State
no_orders = empty_state MAPS LEVELS

-- the commands that tags name
abbrev pub commands_of : List (List Command) → List ℕ → List Command
commands_of scripts tags = filter_map (λ tag. at_line scripts (tag / 2 ^ 32) (tag % 2 ^ 32)) tags

-- one by one, what an entry did is its command's, with the reply
abbrev pub DidEach : List Entry → List Command → List BookReply → Type 0
DidEach [] [] [] = Unit {0}
DidEach (e ∷ es) (c ∷ cs) (r ∷ rs) = Did (script_of c) e.acts r × DidEach es cs rs
DidEach _ _ _ = ⊥

-- one by one, the line that a tag names has the reply
abbrev pub RepliedEach : List (List (Option BookReply)) → List ℕ → List BookReply → Type 0
RepliedEach replies [] [] = Unit {0}
RepliedEach replies (tag ∷ tags) (r ∷ rs) =
    (reply_at replies (tag / 2 ^ 32) (tag % 2 ^ 32) ≡ Some r) × RepliedEach replies tags rs
RepliedEach replies _ _ = ⊥

-- The committed entries of the fronts, in their order: they are the lines of the scripts, each once, each caller's in
-- order; their commands are a day of trading; each did its command with the reply that the book gives, where the
-- commands are folded over the empty book in that order; these are the replies and that is the book; and the fronts are
-- legal from the state without orders, at most one more than there are lines.
pub record IsPlayed (scripts : List (List Command)) (fronts : List Front)
    (replies : List (List (Option BookReply))) (book : Book) : Type 0 where
  pub legal : AreDecidedAndLegal no_orders fronts
  pub few : length fronts ≤ count_of scripts + 1
  pub each_once : IsInterleaving (line_count_of scripts) (tags_of (committed_of fronts))
  pub commands : List Command
  pub named : commands ≡ commands_of scripts (tags_of (committed_of fronts))
  pub day : IsDay commands
  pub did : DidEach (committed_of fronts) commands (replies_to empty_book commands)
  pub replied : RepliedEach replies (tags_of (committed_of fronts)) (replies_to empty_book commands)
  pub closing : book ≡ book_after empty_book commands
