use Rattle.std.proofs.Common.{rules}
use Rattle.md_words.specs.Content.{is_even, spot_of}
use Rattle.md_words.proofs.content.Content.stands.Goals as goal

pub returns-clause-spot : goal.returns-clause-spot
unfolding is_even spot_of
returns-clause-spot c = search rules depth 1

pub returns-clause-even : goal.returns-clause-even
unfolding is_even
returns-clause-even c = search rules depth 1
