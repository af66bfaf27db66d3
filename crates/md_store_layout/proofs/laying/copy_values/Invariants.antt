use Rattle.std.proofs.Common.{◌≡◌, ◌++◌, take}
use Rattle.md_store_layout.proofs.laying.copy_values.Given as goal

abbrev pub invariant-loop-i : goal.invariant-loop-i
invariant-loop-i l = l.values.items ≡ l.initial.values.items ++ take l.i l.queue.items
