use Rattle.std.proofs.Common.{◌<◌, ap, get_or, refl, subst, ◌∙◌, arith, sym}
use Rattle.std.proofs.lemmas.List.Elements.{All-get_or}
use Rattle.md_rule.specs.Views.{PassState}
use Rattle.md_nbtc_law.specs.declared.slots.Slot.{Slot}
use Rattle.md_nbtc_law.specs.declared.slots.TheConstants.{NO_SLOT}
use Rattle.md_nbtc_law.specs.Deciding.{CleansSlot, MayCleanSlot, TookLeft}
use Rattle.md_nbtc_law.proofs.tidyings.Slots.{NO_STEP, clean_all, clean_one, cleans_none, lefts_many, slots_still, took_then}
use Rattle.md_nbtc_sets.proofs.tidying.clean_slots.Goals as goal

pub loop-i-init : goal.loop-i-init
loop-i-init g c = record {
  of = c.requires.of;
  stands = c.requires.stands;
  same = refl;
  so_far = λ outs took left. cleans_none c.args.field.now.origin.shape c.args.pass.now.view;
}

pub get-left-requires : goal.get-left-requires
get-left-requires g c =
    let test = c.loop-i-test.true in
    let len = c.len-i-end.ensures in
    let outs = c.requires.outs in
    let many = lefts_many c.args.field.now.origin c.args.slots.now c.args.lefts.now outs.0 c.args.pass.now.view outs.1 outs.2 in
    omega (arith, test, len, many)

pub clean_slot-requires-clause-may : goal.clean_slot-requires-clause-may
clean_slot-requires-clause-may g c =
    let M = g.T.Theory.meaning in
    let o = c.args.field.now.origin in
    let was = c.loop-i.invariant in
    let outs = c.requires.outs in
    let done = was.so_far outs.0 outs.1 outs.2 in
    let below = subst (λ n. c.loop-i.i < n) c.len-i-end.ensures c.loop-i-test.true in
    subst (MayCleanSlot M o c.loop-i.pass.view) (sym c.get.ensures)
    (All-get_or (MayCleanSlot M o c.loop-i.pass.view) c.args.slots.now c.loop-i.i NO_SLOT below
    (slots_still M o done.steps c.args.pass.now.view c.loop-i.pass.view done.goes c.requires.stands was.stands c.args.slots.now c.requires.may))

pub clean_slot-requires-clause-out : goal.clean_slot-requires-clause-out
clean_slot-requires-clause-out g c =
    let M = g.T.Theory.meaning in
    let o = c.args.field.now.origin in
    let outs = c.requires.outs in
    let done = c.loop-i.invariant.so_far outs.0 outs.1 outs.2 in
    let below = subst (λ n. c.loop-i.i < n) c.len-i-end.ensures c.loop-i-test.true in
    let out = get_or outs.0 c.loop-i.i NO_STEP in (
      out,
      subst (λ (s : Slot). TookLeft o.shape c.loop-i.pass.view s c.get-left.result out) (sym c.get.ensures)
          (took_then M o c.args.slots.now c.args.lefts.now c.loop-i.i below outs.0 c.args.pass.now.view c.loop-i.pass.view outs.1 outs.2 done c.get-left.result c.get-left.ensures),
    )

pub loop-i-preserved : goal.loop-i-preserved
loop-i-preserved g c =
    let M = g.T.Theory.meaning in
    let o = c.args.field.now.origin in
    let was = c.loop-i.invariant in
    let q = c.loop-i.pass.view in
    let r = c.clean_slot.new.pass.view in
    let same = c.clean_slot.ensures.same in
    let below = subst (λ n. c.loop-i.i < n) c.len-i-end.ensures c.loop-i-test.true in
    let left = c.get-left.result in record {
      of = record { table = ap (λ (x : PassState). x.table) same ∙ was.of.table; shape = ap (λ (x : PassState). x.shape) same ∙ was.of.shape };
      stands = c.clean_slot.ensures.stands;
      same = same ∙ ap (λ (x : PassState). record x { view = r }) was.same;
      so_far = λ outs took is.
          let done = was.so_far outs took is in
          let out = get_or outs c.loop-i.i NO_STEP in
          clean_one M o c.args.slots.now c.args.lefts.now c.loop-i.i below outs c.args.pass.now.view q took is done r
          (subst (λ (s : Slot). CleansSlot o.shape s out q r) c.get.ensures
          (c.clean_slot.ensures.cleans out (subst (λ (s : Slot). TookLeft o.shape q s left out) (sym c.get.ensures)
          (took_then M o c.args.slots.now c.args.lefts.now c.loop-i.i below outs c.args.pass.now.view q took is done left c.get-left.ensures))));
    }

pub returns-clause-cleans : goal.returns-clause-cleans
returns-clause-cleans g c outs took left =
    let test = c.loop-i-test.false in
    let len = c.len-i-end.ensures in
    let most = c.loop-i.auto.i-end in
    clean_all c.args.field.now.origin.shape c.args.slots.now outs c.loop-i.i c.args.pass.now.view c.loop-i.pass.view (omega (arith, test, len, most)) took (c.loop-i.invariant.so_far outs took left)
