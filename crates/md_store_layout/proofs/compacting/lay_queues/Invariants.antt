use Rattle.md_store_layout.specs.Below.{LaidUpTo, queues_below}
use Rattle.md_store_law.specs.Living.{pairs_listed, values_listed}
use Rattle.md_store_layout.proofs.compacting.lay_queues.Given as goal

abbrev pub invariant-loop-queue : goal.invariant-loop-queue
invariant-loop-queue l = LaidUpTo l.shape l.words (queues_below l.shape (pairs_listed l.shape l.living) (values_listed l.living) l.queue) l.next
