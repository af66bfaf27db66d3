use Rattle.std.proofs.Common.{◌≡◌, false, take}
use Rattle.std.specs.List.{list_any}
use Rattle.md_nbtc_law.specs.declared.slots.Lot.{Lot}
use Rattle.md_nbtc_law.specs.Calls.{is_next_word}
use Rattle.md_nbtc_law.specs.State.{shape_in, taken_of_lane}
use Rattle.md_nbtc.specs.State.{state}
use Rattle.md_nbtc.proofs.txn.Txn.is_own_next.Given as goal

abbrev pub invariant-loop-i : goal.invariant-loop-i
invariant-loop-i g l =
    list_any (λ (x : Lot). list_any (is_next_word (shape_in (state l.self)) l.word) (taken_of_lane l.self.began.value l.self.pass.now x.lane)) (take l.i l.self.sets.now.lots) ≡ false
