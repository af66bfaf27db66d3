use Rattle.md_store_layout.specs.Below.{LaidUpTo, buckets_below}
use Rattle.md_store_law.specs.Living.{pairs_listed}
use Rattle.md_store_layout.proofs.compacting.lay_map.Given as goal

abbrev pub invariant-loop-bucket : goal.invariant-loop-bucket
invariant-loop-bucket l = LaidUpTo l.shape l.words (buckets_below l.shape (pairs_listed l.shape l.living) l.map l.bucket) l.next
