use Rattle.std.proofs.Common.{rules}
use Rattle.md_store_layout.proofs.compacting.with_base.Goals as goal

pub returns : goal.returns
returns c = search rules depth 1
