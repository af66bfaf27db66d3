-- What a command's whole script leaves is one step of the book.
use Rattle.std.proofs.Common.{◌≡◌, List, sym, subst, ◌∙◌}
use Rattle.md_history.specs.declared.acts.Act.{Act}
use Rattle.md_history.specs.State.{State, IsRight}
use Rattle.md_history.specs.Script.{Did}
use Rattle.md_history.specs.Counts.{AreFew}
use Rattle.md_history.proofs.Runs.{length-maps-run, length-queues-run}
use Rattle.md_history.proofs.Plays.{played, outcome, made, did-played, few-made}
use Rattle.md_book.specs.declared.commands.Command.{Command}
use Rattle.md_book.specs.declared.commands.BookReply.{BookReply}
use Rattle.md_book.specs.Book.{Book, BookStep, book_step}
use Rattle.md_book.specs.Stands.{Shows, IsBookSized}
use Rattle.md_book.specs.Commands.{script_of}
use Rattle.md_book.specs.Meets.{IsBookStep, command_bounds}

-- a state, a reply and acts are those of a step
pub record IsStep (step : BookStep) (t : State) (r : BookReply) (acts : List Act) : Type 0 where
  pub replied : r ≡ step.reply
  pub shows : Shows t step.book
  pub few : AreFew command_bounds acts

-- the script of a command makes that step
abbrev pub MakesStep : State → Book → Command → Type 0
MakesStep s b c = IsStep (book_step b c) (played (script_of c) s) (outcome (script_of c) s) (made (script_of c) s)

pub steps-meet : (s : State) (b : Book) (c : Command) (acts : List Act) (r : BookReply) → IsBookSized s → MakesStep s b c → Did (script_of c) acts r → IsRight s acts → IsBookStep s b c acts r
steps-meet s b c acts r sized steps did right =
    let is_played = did-played (script_of c) s acts r did right in
    record {
      reply = is_played.reply ∙ steps.replied;
      stands = record {
        sized = record { maps = length-maps-run s acts ∙ sized.maps; queues = length-queues-run s acts ∙ sized.queues };
        shows = subst (λ t. Shows t (book_step b c).book) (sym is_played.state) steps.shows;
      };
      few = few-made command_bounds (script_of c) s acts steps.few did.follows right;
    }
