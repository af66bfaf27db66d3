use Rattle.std.proofs.Common.{◌≡◌, None, take}
use Rattle.md_nbtc_law.specs.Sets.{place_of}
use Rattle.md_nbtc_sets.proofs.sets.Slots.find.Given as goal

abbrev pub invariant-loop-i : goal.invariant-loop-i
invariant-loop-i l = place_of (take l.i l.self-inside.items) l.word 0 ≡ None
