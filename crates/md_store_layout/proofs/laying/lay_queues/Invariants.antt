use Rattle.md_history.specs.State.{queue_at}
use Rattle.md_store_law.specs.Laid.{pairs_at}
use Rattle.md_store_layout.specs.Below.{LaidUpTo, queues_below}
use Rattle.md_store_layout.proofs.laying.lay_queues.Given as goal

abbrev pub invariant-loop-queue : goal.invariant-loop-queue
invariant-loop-queue l = LaidUpTo l.shape l.words (queues_below l.shape (pairs_at l.shape l.contents) (queue_at l.contents) l.queue) l.next
