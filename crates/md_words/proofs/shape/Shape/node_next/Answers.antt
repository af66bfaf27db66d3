use Rattle.std.proofs.Common.{rules}
use Rattle.md_words.specs.Layout.{address}
use Rattle.md_words.proofs.shape.Shape.node_next.Goals as goal

pub returns-clause-place : goal.returns-clause-place
unfolding address
returns-clause-place c = search rules depth 1
