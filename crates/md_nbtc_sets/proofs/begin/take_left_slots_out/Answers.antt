use Rattle.std.proofs.Common.{◌<◌, ◌∷◌, arith, ap, subst, ◌∙◌, inl}
use Rattle.md_words.specs.declared.shape.Shape.{Shape}
use Rattle.md_words.specs.Layout.{desc_count}
use Rattle.md_machine.specs.Own.{HasDesc}
use Rattle.md_rule.specs.Kept.{KeepsLane}
use Rattle.md_rule_lanes.specs.Shares.{share_at}
use Rattle.md_rule.specs.Views.{PassState}
use Rattle.md_nbtc_law.proofs.beginning.SlotLooks.{won_small}
use Rattle.md_nbtc_law.proofs.beginning.TakingOut.{takes_all, takes_none, takes_one}
use Rattle.md_nbtc_sets.proofs.begin.take_left_slots_out.Goals as goal

pub settle_one-end-requires-clause-reached : goal.settle_one-end-requires-clause-reached
settle_one-end-requires-clause-reached g c = inl (c.requires.taken.lane, c.requires.taken.some)

pub loop-slot-init : goal.loop-slot-init
loop-slot-init g c =
    let M = g.T.Theory.meaning in
    let o = c.args.field.now.origin in
    let p = c.args.pass.now.view in
    let q = c.settle_one-end.new.pass.view in
    let same = c.settle_one-end.ensures.same in
    let s = c.settle_one-end.ensures.settles in
    let shape = c.requires.of.shape in
    let e = c.settle_one-end.ensures.own (subst (λ (h : Shape). HasDesc h p c.args.desc) shape c.requires.taken.own) in
    let exists = subst (λ (h : Shape). c.args.desc < desc_count h) shape c.requires.taken.exists in record {
      of = record { table = ap (λ (x : PassState). x.table) same ∙ c.requires.of.table; shape = ap (λ (x : PassState). x.shape) same ∙ shape };
      same = same;
      so_far = takes_none o.shape c.args.desc c.settle_one-end.result (s.ask ∷ s.steps) p q s.goes e
          (won_small M o c.args.desc e.serial c.settle_one-end.result q exists e.knows c.settle_one-end.ensures.stands);
    }

pub loop-slot-preserved : goal.loop-slot-preserved
loop-slot-preserved g c =
    let o = c.args.field.now.origin in
    let p = c.args.pass.now.view in
    let q = c.loop-slot.pass.view in
    let r = c.take_slot_out.new.pass.view in
    let same = c.take_slot_out.ensures.same in
    let was = c.loop-slot.invariant in
    let t = was.so_far in record {
      of = record { table = ap (λ (x : PassState). x.table) same ∙ was.of.table; shape = ap (λ (x : PassState). x.shape) same ∙ was.of.shape };
      same = same ∙ ap (λ (x : PassState). record x { view = r }) was.same;
      so_far = takes_one o.shape c.args.desc c.settle_one-end.result c.loop-slot.slot p q r c.requires.idle t (c.take_slot_out.ensures.out t.ends.serial t.ends.knows);
    }

pub returns-clause-empty : goal.returns-clause-empty
returns-clause-empty g c =
    let o = c.args.field.now.origin in
    let p = c.args.pass.now.view in
    let q = c.loop-slot.pass.view in
    let taken = c.requires.taken in
    let kept = subst (λ (h : Shape). KeepsLane h p (record (share_at c.args.pass.now.shares c.args.desc) { tries_taken = taken.count }) c.args.desc) c.requires.of.shape taken.kept in
    let same = ap (λ (x : PassState). (share_at x.shares c.args.desc).slots_written) c.settle_one-end.ensures.same in
    let all = c.slots_written-slots.ensures.slots in
    let test = c.loop-slot-test.false in
    takes_all o.shape c.args.desc c.settle_one-end.result (share_at c.args.pass.now.shares c.args.desc).slots_written c.loop-slot.slot p q c.requires.idle
    (λ serial last. kept.slots serial last)
    (λ slot written small. omega (arith, written, same, all, test))
    c.loop-slot.invariant.so_far
