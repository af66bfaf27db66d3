use Rattle.md_store_layout.specs.Below.{LaidUpTo, maps_below}
use Rattle.md_store_law.specs.Living.{pairs_listed}
use Rattle.md_store_layout.proofs.compacting.lay_all.Given as goal

abbrev pub invariant-loop-map : goal.invariant-loop-map
invariant-loop-map l = LaidUpTo l.shape l.words (maps_below l.shape (pairs_listed l.shape l.living) l.map) l.next
