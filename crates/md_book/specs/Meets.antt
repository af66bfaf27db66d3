-- That a command's acts are one step of the book.
use Rattle.std.specs.Prelude.{◌≡◌, ◌≢◌, ◌+◌, ◌^◌, ◌<◌, List, length, All}
use Rattle.md_history.specs.declared.acts.Act.{Act}
use Rattle.md_history.specs.State.{State, run, IsRight}
use Rattle.md_history.specs.Script.{Did, Follows}
use Rattle.md_history.specs.Counts.{Bounds, AreFew, IsSmall}
use Rattle.md_book.specs.declared.commands.Command.{Command}
use Rattle.md_book.specs.declared.commands.Command.TheVariants.{Place, Cancel, Fill, Kill, Depth, Account}
use Rattle.md_book.specs.declared.commands.BookReply.{BookReply}
use Rattle.md_book.specs.declared.limits.TheConstants.{COMMAND_READS, COMMAND_WRITES, COMMAND_NODES}
use Rattle.md_book.specs.Book.{Book, book_step}
use Rattle.md_book.specs.Stands.{StandsFor}
use Rattle.md_book.specs.Commands.{script_of, IsCommand}

-- what a command reads, writes and takes at most
abbrev pub command_bounds : Bounds
command_bounds = record { reads = COMMAND_READS; writes = COMMAND_WRITES; nodes = COMMAND_NODES }

-- a book can take a command: a place needs a name of its own and room for one more order
abbrev pub MayTake : Book → Command → Type 0
MayTake b (Place name account side price quantity) = All (λ o. o.name ≢ name) b.orders × (length b.orders + 1 < 2 ^ 32)
MayTake b (Cancel name) = Unit {0}
MayTake b (Fill account side price quantity places) = Unit {0}
MayTake b (Kill account side price quantity places) = Unit {0}
MayTake b (Depth side price) = Unit {0}
MayTake b (Account account) = Unit {0}

-- the reply is the book's, the state after the acts stands for the book after the command, and the acts are few
pub record IsBookStep (s : State) (b : Book) (c : Command) (acts : List Act) (r : BookReply) : Type 0 where
  pub reply : r ≡ (book_step b c).reply
  pub stands : StandsFor (run s acts) (book_step b c).book
  pub few : AreFew command_bounds acts

-- commands meet the book
abbrev pub CommandsMeetTheBook : Type 0
CommandsMeetTheBook = (s : State) (b : Book) (c : Command) (acts : List Act) (r : BookReply)
    → StandsFor s b → IsCommand c → MayTake b c → Did (script_of c) acts r → IsRight s acts → IsBookStep s b c acts r

-- whatever a command can make, when maps and queues stand for a book, is few acts
abbrev pub CommandsAreSmall : Type 0
CommandsAreSmall = (s : State) (b : Book) (c : Command) → StandsFor s b → IsCommand c
    → IsSmall command_bounds (Follows (script_of c)) s
