use Rattle.std.proofs.Common.{take}
use Rattle.md_store_law.specs.SideWalks.{AreFilled}
use Rattle.md_store_law.proofs.reading.push_walks.Given as goal

abbrev pub invariant-loop-i : goal.invariant-loop-i
invariant-loop-i l = AreFilled l.first (take l.i l.walks) l.fn.contents l.contents
