use Rattle.std.proofs.Common.{ap, ◌∙◌}
use Rattle.md_rule.specs.Views.{PassState}
use Rattle.md_nbtc_law.proofs.withdrawals.Ended.{clean_now, desc_there, fate_now, holds_desc, may_end, withdrawn}
use Rattle.md_nbtc_law.proofs.withdrawals.Freed.{may_give_back}
use Rattle.md_nbtc_sets.proofs.withdrawal.withdraw.Goals as goal

pub take_writes_out-requires-clause-fate : goal.take_writes_out-requires-clause-fate
take_writes_out-requires-clause-fate g c = c.requires.may.fate

pub give_nodes_back-requires-clause-free : goal.give_nodes_back-requires-clause-free
give_nodes_back-requires-clause-free g c =
    may_give_back c.args.field.now.origin.shape c.args.began.now.value c.args.pass.now c.take_writes_out.new.pass c.args.attempt _ c.requires.may c.requires.of.shape
    c.take_writes_out.ensures.same c.take_writes_out.ensures.out c.shape.ensures.lanes

pub mark_end-requires-clause-field : goal.mark_end-requires-clause-field
mark_end-requires-clause-field g c =
    let M = g.T.Theory.meaning in
    let o = c.args.field.now.origin in
    let r = c.give_nodes_back.new.pass in
    let back = c.give_nodes_back.ensures in
    let same = c.take_writes_out.ensures.same in
    let f = fate_now M o c.args.began.now.value c.args.pass.now c.take_writes_out.new.pass r r c.args.attempt _ c.requires.may c.requires.of.shape same c.take_writes_out.ensures.out back in (
      record {
        table = ap (λ (x : PassState). x.table) back.same ∙ ap (λ (x : PassState). x.table) same ∙ c.requires.of.table;
        shape = ap (λ (x : PassState). x.shape) back.same ∙ ap (λ (x : PassState). x.shape) same ∙ c.requires.of.shape;
      },
      desc_there M o r.view c.args.attempt f,
    )

pub mark_end-requires-clause-hand : goal.mark_end-requires-clause-hand
mark_end-requires-clause-hand g c =
    let M = g.T.Theory.meaning in
    let o = c.args.field.now.origin in
    let r = c.give_nodes_back.new.pass in
    holds_desc M o r.view c.args.attempt
    (fate_now M o c.args.began.now.value c.args.pass.now c.take_writes_out.new.pass r r c.args.attempt _ c.requires.may c.requires.of.shape c.take_writes_out.ensures.same
    c.take_writes_out.ensures.out c.give_nodes_back.ensures)

pub mark_end-requires-clause-may : goal.mark_end-requires-clause-may
mark_end-requires-clause-may g c =
    let M = g.T.Theory.meaning in
    let o = c.args.field.now.origin in
    let r = c.give_nodes_back.new.pass in
    may_end M o r.view c.args.attempt
    (fate_now M o c.args.began.now.value c.args.pass.now c.take_writes_out.new.pass r r c.args.attempt _ c.requires.may c.requires.of.shape c.take_writes_out.ensures.same
    c.take_writes_out.ensures.out c.give_nodes_back.ensures)

pub mark_end-requires-clause-clean : goal.mark_end-requires-clause-clean
mark_end-requires-clause-clean g c =
    let r = c.give_nodes_back.new.pass in
    clean_now g.T.Theory.meaning c.args.field.now.origin c.args.began.now.value c.args.pass.now c.take_writes_out.new.pass r r c.args.attempt _ c.requires.may c.requires.of.shape
    c.take_writes_out.ensures.same c.take_writes_out.ensures.out c.give_nodes_back.ensures

pub returns : goal.returns
returns g c =
    withdrawn g.T.Theory.meaning c.args.field.now.origin c.args.began.now.value c.args.pass.now c.take_writes_out.new.pass c.give_nodes_back.new.pass c.mark_end.new.self
    c.args.attempt _ c.requires.may c.requires.of.shape c.take_writes_out.ensures.same c.take_writes_out.ensures.out c.give_nodes_back.ensures
    c.shape.ensures.shares c.mark_end.ensures.same c.mark_end.ensures.step
