use Rattle.std.proofs.Common.{◌<◌, ◌≤◌, ◌-◌, length}
use Rattle.md_store_law.specs.Field.{logical_words}
use Rattle.md_store_law.proofs.Filling.{QueuesFilled}
use Rattle.md_store_law.proofs.reading.read_off_from.Given as goal

abbrev pub invariant-groups : goal.invariant-groups
invariant-groups g l =
    (0 < length l.walks.items)
    × (l.queue ≤ l.shape.queues)
    × QueuesFilled (logical_words l.shape (g.W.FieldWords.words l.words)) l.contents l.queue

abbrev pub decreases-groups : goal.decreases-groups
decreases-groups g l = l.shape.queues - l.queue
