use Rattle.md_store_law.specs.Laid.{pairs_at}
use Rattle.md_store_layout.specs.Below.{LaidUpTo, maps_below}
use Rattle.md_store_layout.proofs.laying.lay_contents.Given as goal

abbrev pub invariant-loop-map : goal.invariant-loop-map
invariant-loop-map l = LaidUpTo l.shape l.words (maps_below l.shape (pairs_at l.shape l.contents) l.map) l.next
