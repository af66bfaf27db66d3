use Rattle.std.proofs.Common.{◌≡◌, ◌==◌, false, take}
use Rattle.std.specs.List.{list_any}
use Rattle.md_nbtc_sets.proofs.sets.Lots.has.Given as goal

abbrev pub invariant-loop-i : goal.invariant-loop-i
invariant-loop-i l = list_any (λ x. x.lane == l.lane) (take l.i l.self-inside.items) ≡ false
