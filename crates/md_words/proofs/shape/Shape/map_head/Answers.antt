use Rattle.std.proofs.Common.{rules}
use Rattle.md_words.specs.Layout.{address, bucket_of}
use Rattle.md_words.proofs.shape.Shape.map_head.Goals as goal

pub returns-clause-place : goal.returns-clause-place
unfolding address bucket_of
returns-clause-place c = search rules depth 1
