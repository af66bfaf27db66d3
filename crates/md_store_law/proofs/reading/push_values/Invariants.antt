use Rattle.std.proofs.Common.{◌≡◌, take}
use Rattle.md_history.specs.State.{with_queue}
use Rattle.md_store_law.proofs.reading.push_values.Given as goal

abbrev pub invariant-loop-value : goal.invariant-loop-value
invariant-loop-value l = l.contents ≡ with_queue l.initial.contents l.queue (take l.value-index l.values)
