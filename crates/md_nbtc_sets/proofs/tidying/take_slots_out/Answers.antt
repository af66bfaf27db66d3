use Rattle.std.proofs.Common.{◌+◌, [], ◌∷◌, ap, length, refl, subst, take, ◌∙◌, arith, sym}
use Rattle.std.proofs.lemmas.List.{length-append}
use Rattle.md_words.specs.declared.status.Status.TheVariants.{Committed}
use Rattle.md_rule.specs.Views.{PassState}
use Rattle.md_nbtc_law.specs.declared.slots.Slot.{Slot}
use Rattle.md_nbtc_law.specs.Withdrawing.{IsInstalled, TakesWriteOut}
use Rattle.md_nbtc_law.proofs.tidyings.Slots.{TakesTo, slot_in, slots_all, slots_more, taken_clean, takes_to_none}
use Rattle.md_nbtc_law.proofs.withdrawals.AllOut.{fate_still}
use Rattle.md_nbtc_sets.proofs.tidying.take_slots_out.Goals as goal

pub loop-i-init : goal.loop-i-init
loop-i-init g c = record {
  of = c.requires.of;
  stands = c.requires.stands;
  many = ap length c.clear.ensures;
  same = refl;
  so_far = subst (λ ls. TakesTo c.args.field.now.origin.shape c.args.attempt [] ls c.args.pass.now.view c.args.pass.now.view) (sym c.clear.ensures)
      (takes_to_none c.args.field.now.origin.shape c.args.attempt c.args.pass.now.view);
}

pub push-requires : goal.push-requires
push-requires g c =
    let test = c.loop-i-test.true in
    let len = c.len-i-end.ensures in
    let few = c.requires.may.few in
    let many = c.loop-i.invariant.many in omega (arith, test, len, few, many)

pub take_write_out-requires-clause-fate : goal.take_write_out-requires-clause-fate
take_write_out-requires-clause-fate g c =
    let t = c.loop-i.invariant.so_far.takes in
    fate_still c.args.field.now.origin.shape c.args.attempt t.steps c.args.pass.now.view c.loop-i.pass.view t.goes Committed c.requires.may.fate

pub take_write_out-requires-clause-installed : goal.take_write_out-requires-clause-installed
take_write_out-requires-clause-installed g c =
    let o = c.args.field.now.origin in
    let test = c.loop-i-test.true in
    let len = c.len-i-end.ensures in
    subst (λ (s : Slot). IsInstalled o.shape c.loop-i.pass.view c.args.attempt s.write) (sym c.get.ensures)
    (slot_in g.T.Theory.meaning o c.args.attempt c.args.slots.now c.loop-i.lefts c.loop-i.i (omega (arith, test, len)) c.args.pass.now.view c.loop-i.pass.view c.loop-i.invariant.so_far c.requires.may.installed)

pub loop-i-preserved : goal.loop-i-preserved
loop-i-preserved g c =
    let M = g.T.Theory.meaning in
    let o = c.args.field.now.origin in
    let was = c.loop-i.invariant in
    let r = c.take_write_out.new.pass.view in
    let same = c.take_write_out.ensures.same in
    let test = c.loop-i-test.true in
    let len = c.len-i-end.ensures in record {
      of = record { table = ap (λ (x : PassState). x.table) same ∙ was.of.table; shape = ap (λ (x : PassState). x.shape) same ∙ was.of.shape };
      stands = c.take_write_out.ensures.stands;
      same = same ∙ ap (λ (x : PassState). record x { view = r }) was.same;
      many = ap length c.push.ensures ∙ length-append c.loop-i.lefts (c.take_write_out.result ∷ []) ∙ ap (λ n. n + 1) was.many;
      so_far = subst (λ ls. TakesTo o.shape c.args.attempt (take (c.loop-i.i + 1) c.args.slots.now) ls c.args.pass.now.view r) (sym c.push.ensures)
          (slots_more M o c.args.attempt c.args.slots.now c.loop-i.lefts c.loop-i.i (omega (arith, test, len)) c.args.pass.now.view c.loop-i.pass.view was.so_far
          c.requires.stands was.stands c.requires.may.may c.take_write_out.result r
          (subst (λ (s : Slot). TakesWriteOut M o c.args.attempt Committed s.write c.take_write_out.result c.loop-i.pass.view r) c.get.ensures c.take_write_out.ensures.out));
    }

pub returns-clause-takes : goal.returns-clause-takes
returns-clause-takes g c =
    let test = c.loop-i-test.false in
    let len = c.len-i-end.ensures in
    let most = c.loop-i.auto.i-end in
    (slots_all c.args.field.now.origin.shape c.args.attempt c.args.slots.now c.loop-i.lefts c.loop-i.i c.args.pass.now.view c.loop-i.pass.view (omega (arith, test, len, most)) c.loop-i.invariant.so_far).takes

pub returns-clause-clean : goal.returns-clause-clean
returns-clause-clean g c =
    let test = c.loop-i-test.false in
    let len = c.len-i-end.ensures in
    let most = c.loop-i.auto.i-end in
    taken_clean c.args.field.now.origin.shape c.args.attempt c.args.slots.now _ c.args.pass.now.view c.loop-i.pass.view c.requires.may.installed
    (slots_all c.args.field.now.origin.shape c.args.attempt c.args.slots.now c.loop-i.lefts c.loop-i.i c.args.pass.now.view c.loop-i.pass.view (omega (arith, test, len, most)) c.loop-i.invariant.so_far)
