use Rattle.md_store_law.specs.Laid.{pairs_at}
use Rattle.md_store_layout.specs.Below.{LaidUpTo, buckets_below}
use Rattle.md_store_layout.proofs.laying.lay_map.Given as goal

abbrev pub invariant-loop-bucket : goal.invariant-loop-bucket
invariant-loop-bucket l = LaidUpTo l.shape l.words (buckets_below l.shape (pairs_at l.shape l.contents) l.map l.bucket) l.next
