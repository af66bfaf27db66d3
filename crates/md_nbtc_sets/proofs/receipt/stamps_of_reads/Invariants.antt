use Rattle.std.proofs.Common.{◌≡◌, map, take}
use Rattle.md_nbtc_law.specs.declared.slots.Slot.{Slot}
use Rattle.md_nbtc_law.specs.Telling.{read_count}
use Rattle.md_nbtc_sets.proofs.receipt.stamps_of_reads.Given as goal

abbrev pub invariant-loop-i : goal.invariant-loop-i
invariant-loop-i l = l.stamps ≡ map (read_count (map (λ (s : Slot). s.write) l.slots)) (take l.i l.reads)
