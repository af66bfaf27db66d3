use Rattle.std.proofs.Common.{◌∙◌, ◌||◌, ℕ, Bool, get_or, refl, sym, ap, arith}
use Rattle.std.proofs.lemmas.List.{take_all}
use Rattle.std.proofs.lemmas.List.Folds.{list_any_at, list_any_more}
use Rattle.std.specs.List.{list_any}
use Rattle.md_nbtc_law.specs.declared.slots.Lot.{Lot}
use Rattle.md_nbtc_law.specs.declared.slots.TheConstants.{NO_LOT}
use Rattle.md_nbtc_law.specs.Calls.{is_next_word}
use Rattle.md_nbtc_law.specs.State.{shape_in, taken_of_lane}
use Rattle.md_nbtc_law.proofs.exchanging.OwnLots.{test_by_lots}
use Rattle.md_nbtc.specs.State.{state}
use Rattle.md_nbtc.proofs.txn.Txn.is_own_next.Goals as goal

pub loop-i-init : goal.loop-i-init
loop-i-init g c = refl

pub returns-then-is_next_in : goal.returns-then-is_next_in
returns-then-is_next_in g c =
    let x = c.args.self.now in
    let prepared = c.requires.going.1.prepared in
    let its : ℕ → Bool = is_next_word (shape_in (state x)) c.args.word in
    let in_lot : Lot → Bool = λ l. list_any its (taken_of_lane x.began.value x.pass.now l.lane) in
    let all = test_by_lots x.field.now x.pass.now x.began.value x.sets.now.reads x.sets.now.slots x.stop x.desc x.serial x.tag x.sets.now.lots prepared its in
    let b = c.loop-i-test.true in
    let end = c.len-i-end.ensures in
    sym (all ∙ list_any_at in_lot x.sets.now.lots c.loop-i.i NO_LOT (omega (arith, b, end)) (ap in_lot (sym c.get.ensures) ∙ sym c.is_next_in.ensures ∙ c.if-is_next_in.true))

pub loop-i-preserved : goal.loop-i-preserved
loop-i-preserved g c =
    let x = c.args.self.now in
    let prepared = c.requires.going.1.prepared in
    let its : ℕ → Bool = is_next_word (shape_in (state x)) c.args.word in
    let in_lot : Lot → Bool = λ l. list_any its (taken_of_lane x.began.value x.pass.now l.lane) in
    let all = test_by_lots x.field.now x.pass.now x.began.value x.sets.now.reads x.sets.now.slots x.stop x.desc x.serial x.tag x.sets.now.lots prepared its in
    let b = c.loop-i-test.true in
    let end = c.len-i-end.ensures in
    list_any_more in_lot x.sets.now.lots c.loop-i.i NO_LOT (omega (arith, b, end)) ∙ ap (λ y. y || in_lot (get_or x.sets.now.lots c.loop-i.i NO_LOT)) c.loop-i.invariant
    ∙ ap in_lot (sym c.get.ensures) ∙ sym c.is_next_in.ensures ∙ c.if-is_next_in.false

pub returns : goal.returns
returns g c =
    let x = c.args.self.now in
    let prepared = c.requires.going.1.prepared in
    let its : ℕ → Bool = is_next_word (shape_in (state x)) c.args.word in
    let in_lot : Lot → Bool = λ l. list_any its (taken_of_lane x.began.value x.pass.now l.lane) in
    let all = test_by_lots x.field.now x.pass.now x.began.value x.sets.now.reads x.sets.now.slots x.stop x.desc x.serial x.tag x.sets.now.lots prepared its in
    let out = c.loop-i-test.false in
    let end = c.len-i-end.ensures in
    sym (all ∙ ap (list_any in_lot) (sym (take_all c.loop-i.i x.sets.now.lots (omega (arith, out, end)))) ∙ c.loop-i.invariant)
