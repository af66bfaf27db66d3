use Rattle.md_book.proofs.steps.KillsAreWhole.{kills-are-whole}
use Rattle.md_book.proofs.laws.kills_are_whole.Goals as goal

pub returns : goal.returns
returns c = kills-are-whole
