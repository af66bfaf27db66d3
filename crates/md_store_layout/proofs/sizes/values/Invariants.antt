use Rattle.std.proofs.Common.{◌≡◌, ◌+◌, map, drop, length}
use Rattle.std.specs.List.{sum_by}
use Rattle.md_store_law.specs.Needed.{capped}
use Rattle.md_store_layout.proofs.sizes.values.Given as goal

abbrev pub invariant-loop-queue : goal.invariant-loop-queue
invariant-loop-queue l = (capped l.all ≡ l.all) × (capped (l.all + sum_by length (map (λ q. q.items) (drop l.queue-index l.queues))) ≡ capped (sum_by length (map (λ q. q.items) l.queues)))
