use Rattle.std.proofs.Common.{ap, subst, sym, ◌∙◌}
use Rattle.md_machine.specs.events.Start.{IsClean}
use Rattle.md_rule.specs.Views.{PassState}
use Rattle.md_nbtc_law.proofs.tidyings.Finished.{clean_still, fate_now, finished}
use Rattle.md_nbtc_law.proofs.tidyings.Slots.{slots_still}
use Rattle.md_nbtc_law.proofs.withdrawals.Ended.{desc_there, hand_is, holds_desc, may_end}
use Rattle.md_nbtc_sets.proofs.tidying.finish.Goals as goal

pub clean_slots-requires-clause-may : goal.clean_slots-requires-clause-may
clean_slots-requires-clause-may g c =
    let t = c.take_slots_out.ensures.takes in
    slots_still g.T.Theory.meaning c.args.field.now.origin t.steps c.args.pass.now.view c.take_slots_out.new.pass.view t.goes c.requires.stands c.take_slots_out.ensures.stands c.args.slots.now c.requires.may.may

pub clean_slots-requires-clause-outs : goal.clean_slots-requires-clause-outs
clean_slots-requires-clause-outs g c = let t = c.take_slots_out.ensures.takes in (t.steps, t.took, t.left)

pub mark_end-requires-clause-field : goal.mark_end-requires-clause-field
mark_end-requires-clause-field g c =
    let M = g.T.Theory.meaning in
    let o = c.args.field.now.origin in
    let t = c.take_slots_out.ensures.takes in
    let q = c.take_slots_out.new.pass in
    let r = c.clean_slots.new.pass in
    let one = c.take_slots_out.ensures.same in
    let two = c.clean_slots.ensures.same in
    let f = fate_now M o c.args.pass.now q r r c.args.attempt c.args.slots.now _ c.requires.may.fate one two t (c.clean_slots.ensures.cleans t.steps t.took t.left) in (
      record {
        table = ap (λ (x : PassState). x.table) two ∙ ap (λ (x : PassState). x.table) one ∙ c.requires.of.table;
        shape = ap (λ (x : PassState). x.shape) two ∙ ap (λ (x : PassState). x.shape) one ∙ c.requires.of.shape;
      },
      desc_there M o r.view c.args.attempt f,
    )

pub mark_end-requires-clause-hand : goal.mark_end-requires-clause-hand
mark_end-requires-clause-hand g c =
    let M = g.T.Theory.meaning in
    let o = c.args.field.now.origin in
    let t = c.take_slots_out.ensures.takes in
    let r = c.clean_slots.new.pass in
    holds_desc M o r.view c.args.attempt
    (fate_now M o c.args.pass.now c.take_slots_out.new.pass r r c.args.attempt c.args.slots.now _ c.requires.may.fate c.take_slots_out.ensures.same c.clean_slots.ensures.same t
    (c.clean_slots.ensures.cleans t.steps t.took t.left))

pub mark_end-requires-clause-may : goal.mark_end-requires-clause-may
mark_end-requires-clause-may g c =
    let M = g.T.Theory.meaning in
    let o = c.args.field.now.origin in
    let t = c.take_slots_out.ensures.takes in
    let r = c.clean_slots.new.pass in
    may_end M o r.view c.args.attempt
    (fate_now M o c.args.pass.now c.take_slots_out.new.pass r r c.args.attempt c.args.slots.now _ c.requires.may.fate c.take_slots_out.ensures.same c.clean_slots.ensures.same t
    (c.clean_slots.ensures.cleans t.steps t.took t.left))

pub mark_end-requires-clause-clean : goal.mark_end-requires-clause-clean
mark_end-requires-clause-clean g c h is =
    let M = g.T.Theory.meaning in
    let o = c.args.field.now.origin in
    let t = c.take_slots_out.ensures.takes in
    let q = c.take_slots_out.new.pass in
    let r = c.clean_slots.new.pass in
    let cleans = c.clean_slots.ensures.cleans t.steps t.took t.left in
    let f = fate_now M o c.args.pass.now q r r c.args.attempt c.args.slots.now _ c.requires.may.fate c.take_slots_out.ensures.same c.clean_slots.ensures.same t cleans in
    subst (IsClean r.view) (sym (hand_is r.view c.args.attempt f.held h is)) (clean_still o.shape c.args.slots.now t.steps q.view r.view cleans c.args.attempt c.take_slots_out.ensures.clean)

pub returns : goal.returns
returns g c =
    let M = g.T.Theory.meaning in
    let o = c.args.field.now.origin in
    let t = c.take_slots_out.ensures.takes in
    let cleans = c.clean_slots.ensures.cleans t.steps t.took t.left in
    finished M o c.args.pass.now c.take_slots_out.new.pass c.clean_slots.new.pass c.mark_end.new.self c.args.attempt c.args.slots.now _ c.requires.may.fate c.take_slots_out.ensures.same c.clean_slots.ensures.same t cleans
    c.shape.ensures.shares c.clean_slots.ensures.stands c.mark_end.ensures.same c.mark_end.ensures.step
