use Rattle.std.proofs.Common.{◌≡◌, map}
use Rattle.md_nbtc_law.specs.declared.slots.TheConstants.{NO_SLOT}
use Rattle.md_nbtc_law.specs.Cleaning.{with_cleanup}
use Rattle.md_nbtc_law.proofs.keeping.Mapping.{changed_to}
use Rattle.md_nbtc_sets.proofs.sets.Slots.keep.Given as goal

abbrev pub invariant-loop-i : goal.invariant-loop-i
invariant-loop-i l = (l.self-inside.items ≡ changed_to (with_cleanup l.word l.cleanup) NO_SLOT l.i l.initial.self-inside.items)
    × (l.self-inside.count ≡ l.initial.self-inside.count)
    × (map (λ x. x.write.word) l.self-inside.items ≡ map (λ x. x.write.word) l.initial.self-inside.items)
    × (l.self-inside.marks ≡ l.initial.self-inside.marks)
