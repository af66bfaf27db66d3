use Rattle.std.proofs.Common.{◌≡◌, None, take}
use Rattle.md_machine.specs.Certified.{content_read}
use Rattle.md_nbtc_sets.proofs.sets.Reads.content.Given as goal

abbrev pub invariant-loop-i : goal.invariant-loop-i
invariant-loop-i l = content_read (take l.i l.self-inside.items) l.word ≡ None
