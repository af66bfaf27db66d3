use Rattle.std.proofs.Common.{◌<◌, ◌≤◌, ◌-◌, length}
use Rattle.md_store_law.specs.Compacted.{values_in}
use Rattle.md_store_law.specs.Lists.{AreFirst}
use Rattle.md_store_law.proofs.gathering.gather_values.Given as goal

abbrev pub invariant-groups : goal.invariant-groups
invariant-groups g l =
    (0 < length l.walks.items)
    × (l.queue ≤ l.shape.queues)
    × AreFirst l.values.joined.items l.values.bounds.items (values_in l.shape (g.W.FieldWords.words l.words)) l.queue

abbrev pub decreases-groups : goal.decreases-groups
decreases-groups g l = l.shape.queues - l.queue
