use Rattle.std.proofs.Common.{rules}
use Rattle.md_words.specs.Lanes.{node_of, OwnsNode}
use Rattle.md_words.specs.Layout.{node_count}
use Rattle.md_words.proofs.shape.Shape.node_of.Goals as goal

pub returns-clause-node : goal.returns-clause-node
unfolding node_of
returns-clause-node c = assumption

pub returns-clause-owner : goal.returns-clause-owner
unfolding OwnsNode
returns-clause-owner c = search rules depth 1

pub returns-clause-exists : goal.returns-clause-exists
unfolding node_count
returns-clause-exists c = search rules depth 1
