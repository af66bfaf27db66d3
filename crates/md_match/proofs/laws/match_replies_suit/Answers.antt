use Rattle.md_match.proofs.trading.Days.{match-replies-suit}
use Rattle.md_match.proofs.laws.match_replies_suit.Goals as goal

pub returns : goal.returns
returns c = match-replies-suit
