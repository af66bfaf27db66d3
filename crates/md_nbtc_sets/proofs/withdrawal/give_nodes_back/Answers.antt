use Rattle.std.proofs.Common.{◌≡◌, ◌-◌, ◌<◌, ◌∷◌, drop, get_or, length, sym, subst, arith}
use Rattle.std.proofs.lemmas.List.{drop_all}
use Rattle.md_arena.specs.Taking.{with_nodes}
use Rattle.md_nbtc_law.specs.declared.slots.Lot.{Lot}
use Rattle.md_nbtc_law.specs.declared.slots.TheConstants.{NO_LOT}
use Rattle.md_nbtc_law.specs.Withdrawing.{MayGiveLotBack}
use Rattle.md_nbtc_law.proofs.withdrawals.NodesBack.{GivesSome, gives_all, gives_more, gives_none, lot_at, may_lot, more_from}
use Rattle.md_nbtc_sets.proofs.withdrawal.give_nodes_back.Goals as goal

pub loop-i-init : goal.loop-i-init
loop-i-init g c =
    let all = c.len-i.ensures in
    subst (λ l. GivesSome c.args.began.now.value c.args.pass.now l c.args.pass.now) (sym (drop_all c.len-i.result c.args.lots.now (omega (arith, all)))) (gives_none c.args.began.now.value c.args.pass.now)

pub give_lot_back-requires : goal.give_lot_back-requires
give_lot_back-requires g c =
    let began = c.args.began.now.value in
    let p = c.args.pass.now in
    let more = c.loop-i-test.true in
    let less = c.loop-i.auto.i in
    let all = c.len-i.ensures in record {
      lot = subst (MayGiveLotBack c.loop-i.pass) (sym c.get.ensures)
          (may_lot began p c.shape.ensures.lanes c.shape.ensures.shares (drop c.loop-i.i c.args.lots.now) c.loop-i.pass c.loop-i.invariant _
          (lot_at began p c.args.lots.now c.requires.lots (c.loop-i.i - 1) (omega (arith, more, less, all))) c.requires.taken c.requires.free);
    }

pub loop-i-preserved : goal.loop-i-preserved
loop-i-preserved g c =
    let began = c.args.began.now.value in
    let p = c.args.pass.now in
    let more = c.loop-i-test.true in
    let less = c.loop-i.auto.i in
    let all = c.len-i.ensures in
    let q = c.loop-i.pass in
    let r = c.give_lot_back.new.pass in
    let at = c.loop-i.i - 1 in
    let below : at < length c.args.lots.now = omega (arith, more, less, all) in
    more_from began p c.args.lots.now at below r
    (subst (λ n. GivesSome began p (get_or c.args.lots.now at NO_LOT ∷ drop n c.args.lots.now) r) (omega (arith, more))
    (gives_more began p c.shape.ensures.lanes c.shape.ensures.shares (drop c.loop-i.i c.args.lots.now) q c.loop-i.invariant (get_or c.args.lots.now at NO_LOT)
    (lot_at began p c.args.lots.now c.requires.lots at below) r
    (subst (λ (l : Lot). r ≡ with_nodes q l.lane l.first) c.get.ensures c.give_lot_back.ensures)))

pub returns : goal.returns
returns g c =
    let began = c.args.began.now.value in
    let p = c.args.pass.now in
    let end = c.loop-i-test.false in
    let none : c.loop-i.i ≡ 0 = omega (arith, end) in
    gives_all began p c.requires.taken c.requires.lanes c.loop-i.pass
    (subst (λ l. GivesSome began p l c.loop-i.pass) c.requires.lots (subst (λ n. GivesSome began p (drop n c.args.lots.now) c.loop-i.pass) none c.loop-i.invariant))
