use Rattle.std.proofs.Common.{rules}
use Rattle.md_words.specs.Link.{link_value}
use Rattle.md_store_layout.proofs.building.naming.Goals as goal

pub returns : goal.returns
unfolding link_value
returns c = search rules depth 1
