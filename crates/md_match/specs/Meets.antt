-- That a matching command's acts are one step of the matching book.
use Rattle.std.specs.Prelude.{◌≡◌, ◌≢◌, ◌≤◌, ◌+◌, ◌^◌, ◌<◌, List, length, All}
use Rattle.md_history.specs.declared.acts.Act.{Act}
use Rattle.md_history.specs.State.{State, run, IsRight}
use Rattle.md_history.specs.Script.{Did, Follows}
use Rattle.md_history.specs.Counts.{Bounds, AreFew, IsSmall}
use Rattle.md_history.specs.Engine.{needed}
use Rattle.md_book.specs.Book.{Book}
use Rattle.md_match.specs.declared.commands.MatchCommand.{MatchCommand}
use Rattle.md_match.specs.declared.commands.MatchCommand.TheVariants.{Match, Cancel, Depth}
use Rattle.md_match.specs.declared.commands.MatchReply.{MatchReply}
use Rattle.md_match.specs.declared.limits.TheConstants.{MATCH_READS, MATCH_WRITES, MATCH_NODES, MATCH_ORDERS, MATCH_CONTENTS}
use Rattle.md_match.specs.Matching.{match_step}
use Rattle.md_match.specs.Stands.{StandsForMatch}
use Rattle.md_match.specs.Commands.{IsMatchCommand}
use Rattle.md_match.specs.Sweeping.{match_script}

-- what a command reads, writes and takes at most
abbrev pub match_bounds : Bounds
match_bounds = record { reads = MATCH_READS; writes = MATCH_WRITES; nodes = MATCH_NODES }

-- a book can take a command: a match needs a name of its own and room for one more order
abbrev pub MayMatch : Book → MatchCommand → Type 0
MayMatch b (Match name account side price quantity) =
    All (λ o. o.name ≢ name) b.orders × (length b.orders + 1 < 2 ^ 32)
MayMatch b (Cancel name) = Unit {0}
MayMatch b (Depth side price) = Unit {0}

-- the reply is the book's, the state after the acts stands for the book after the command, and the acts are few
pub record IsMatchStep (s : State) (b : Book) (c : MatchCommand) (acts : List Act) (r : MatchReply) : Type 0 where
  pub reply : r ≡ (match_step b c).reply
  pub stands : StandsForMatch (run s acts) (match_step b c).book
  pub few : AreFew match_bounds acts

-- matching commands meet the book
abbrev pub MatchesMeetTheBook : Type 0
MatchesMeetTheBook = (s : State) (b : Book) (c : MatchCommand) (acts : List Act) (r : MatchReply)
    → StandsForMatch s b → IsMatchCommand c → MayMatch b c → Did (match_script c) acts r → IsRight s acts
    → IsMatchStep s b c acts r

-- whatever a command can make, when maps and queues stand for a book, is few acts
abbrev pub MatchesAreSmall : Type 0
MatchesAreSmall = (s : State) (b : Book) (c : MatchCommand) → StandsForMatch s b → IsMatchCommand c
    → IsSmall match_bounds (Follows (match_script c)) s

-- the contents of a book of so many orders need so many nodes at most: two for each order and each account, and one for
-- each queue, each level and each word of price bits
abbrev pub ContentsAreFew : Type 0
ContentsAreFew = (s : State) (b : Book) → StandsForMatch s b → length b.orders ≤ MATCH_ORDERS
    → needed s ≤ MATCH_CONTENTS
