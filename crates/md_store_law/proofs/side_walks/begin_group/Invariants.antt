use Rattle.std.proofs.Common.{◌+◌, ◌<◌, ℕ, get_or}
use Rattle.md_store_law.specs.declared.side_walks.QueueWalk.{QueueWalk}
use Rattle.md_store_law.specs.SideWalks.{IsWalkBegun}
use Rattle.md_store_law.proofs.side_walks.begin_group.Given as goal

abbrev pub invariant-loop-i : goal.invariant-loop-i
invariant-loop-i g l =
    (k : ℕ) (other : QueueWalk) → k < l.i → IsWalkBegun l.shape (g.W.FieldWords.words l.words) (l.first + k) (get_or l.walks k other)
