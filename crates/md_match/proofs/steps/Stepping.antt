-- What a command's whole script leaves is one step of the matching book.
use Rattle.std.proofs.Common.{◌≡◌, List, sym, subst, ◌∙◌}
use Rattle.md_history.specs.declared.acts.Act.{Act}
use Rattle.md_history.specs.State.{State, IsRight}
use Rattle.md_history.specs.Script.{Did}
use Rattle.md_history.specs.Counts.{AreFew}
use Rattle.md_history.proofs.Runs.{length-maps-run, length-queues-run}
use Rattle.md_history.proofs.Plays.{played, outcome, made, did-played, few-made}
use Rattle.md_book.specs.Book.{Book}
use Rattle.md_book.specs.Stands.{Shows}
use Rattle.md_match.specs.declared.commands.MatchCommand.{MatchCommand}
use Rattle.md_match.specs.declared.commands.MatchReply.{MatchReply}
use Rattle.md_match.specs.Matching.{MatchStep, match_step}
use Rattle.md_match.specs.Stands.{has_depth, ShowsPrices, IsMatchSized}
use Rattle.md_match.specs.Sweeping.{match_script}
use Rattle.md_match.specs.Meets.{IsMatchStep, MayMatch, match_bounds}

-- A state, a reply and acts are those of a step; the maps and queues show its book where the command may be taken.
pub record IsStep (may : Type 0) (step : MatchStep) (t : State) (r : MatchReply) (acts : List Act) : Type 0 where
  pub replied : r ≡ step.reply
  pub shows : may → Shows t step.book
  pub prices : ShowsPrices t (has_depth step.book)
  pub few : AreFew match_bounds acts

-- the script of a command makes that step
abbrev pub MakesStep : State → Book → MatchCommand → Type 0
MakesStep s b c = IsStep (MayMatch b c) (match_step b c) (played (match_script c) s) (outcome (match_script c) s) (made (match_script c) s)

-- right acts of a script that makes its step meet the book
pub steps-meet : (s : State) (b : Book) (c : MatchCommand) (acts : List Act) (r : MatchReply) → IsMatchSized s → MakesStep s b c → MayMatch b c → Did (match_script c) acts r → IsRight s acts → IsMatchStep s b c acts r
steps-meet s b c acts r sized steps may did right =
    let is_played = did-played (match_script c) s acts r did right in
    record {
      reply = is_played.reply ∙ steps.replied;
      stands = record {
        sized = record { maps = length-maps-run s acts ∙ sized.maps; queues = length-queues-run s acts ∙ sized.queues };
        shows = subst (λ t. Shows t (match_step b c).book) (sym is_played.state) (steps.shows may);
        prices = subst (λ t. ShowsPrices t (has_depth (match_step b c).book)) (sym is_played.state) steps.prices;
      };
      few = few-made match_bounds (match_script c) s acts steps.few did.follows right;
    }
