use Rattle.std.proofs.Common.{arith, rules}
use Rattle.md_words.specs.Layout.{node_count}
use Rattle.md_store_layout.proofs.building.append.Goals as goal

pub naming-requires : goal.naming-requires
unfolding node_count
naming-requires c = let fits = c.args.shape.now.fits in let top = c.requires.node.1 in omega arith

pub returns : goal.returns
returns c = search rules depth 1
