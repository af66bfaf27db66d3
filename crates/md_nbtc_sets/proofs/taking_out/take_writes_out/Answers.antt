use Rattle.std.proofs.Common.{refl, sym, ap, subst, ◌∙◌, arith}
use Rattle.md_rule.specs.Views.{PassState}
use Rattle.md_nbtc_law.specs.Withdrawing.{IsInstalled, TakesWriteOut}
use Rattle.md_nbtc_law.specs.declared.slots.Slot.{Slot}
use Rattle.md_nbtc_law.proofs.withdrawals.AllOut.{fate_still, first_all, first_more, slot_installed, takes_none}
use Rattle.md_nbtc_sets.proofs.taking_out.take_writes_out.Goals as goal

pub loop-i-init : goal.loop-i-init
loop-i-init g c = record {
  of = c.requires.of;
  stands = c.requires.stands;
  same = refl;
  so_far = takes_none c.args.field.now.origin.shape c.args.attempt c.args.fate c.args.pass.now.view;
}

pub take_write_out-requires-clause-of : goal.take_write_out-requires-clause-of
take_write_out-requires-clause-of g c = c.loop-i.invariant.of

pub take_write_out-requires-clause-stands : goal.take_write_out-requires-clause-stands
take_write_out-requires-clause-stands g c = c.loop-i.invariant.stands

pub take_write_out-requires-clause-fate : goal.take_write_out-requires-clause-fate
take_write_out-requires-clause-fate g c =
    let t = c.loop-i.invariant.so_far in
    fate_still c.args.field.now.origin.shape c.args.attempt t.steps c.args.pass.now.view c.loop-i.pass.view t.goes c.args.fate c.requires.fate

pub take_write_out-requires-clause-installed : goal.take_write_out-requires-clause-installed
take_write_out-requires-clause-installed g c =
    let shape = c.args.field.now.origin.shape in
    let test = c.loop-i-test.true in
    let len = c.len-i-end.ensures in
    subst (λ (s : Slot). IsInstalled shape c.loop-i.pass.view c.args.attempt s.write) (sym c.get.ensures)
    (slot_installed g.T.Theory.meaning c.args.field.now.origin c.args.attempt c.args.fate c.args.slots.now c.args.pass.now.view c.loop-i.pass.view c.loop-i.i (omega (arith, test, len)) c.loop-i.invariant.so_far c.requires.installed)

pub loop-i-preserved : goal.loop-i-preserved
loop-i-preserved g c =
    let shape = c.args.field.now.origin.shape in
    let was = c.loop-i.invariant in
    let r = c.take_write_out.new.pass.view in
    let same = c.take_write_out.ensures.same in
    let test = c.loop-i-test.true in
    let len = c.len-i-end.ensures in record {
      of = record { table = ap (λ (x : PassState). x.table) same ∙ was.of.table; shape = ap (λ (x : PassState). x.shape) same ∙ was.of.shape };
      stands = c.take_write_out.ensures.stands;
      same = same ∙ ap (λ (x : PassState). record x { view = r }) was.same;
      so_far = first_more g.T.Theory.meaning c.args.field.now.origin c.args.attempt c.args.fate c.args.slots.now c.args.pass.now.view c.loop-i.pass.view c.loop-i.i (omega (arith, test, len)) was.so_far c.take_write_out.result r
          (subst (λ (s : Slot). TakesWriteOut g.T.Theory.meaning c.args.field.now.origin c.args.attempt c.args.fate s.write c.take_write_out.result c.loop-i.pass.view r) c.get.ensures c.take_write_out.ensures.out);
    }

pub returns-clause-out : goal.returns-clause-out
returns-clause-out g c =
    let test = c.loop-i-test.false in
    let len = c.len-i-end.ensures in
    first_all g.T.Theory.meaning c.args.field.now.origin c.args.attempt c.args.fate c.args.slots.now c.args.pass.now.view c.loop-i.pass.view c.loop-i.i (omega (arith, test, len))
    c.loop-i.invariant.so_far c.requires.installed
