use Rattle.std.proofs.Common.{◌<◌, length, sym, ap, subst, ◌∙◌}
use Rattle.std.specs.Mem.Slots.{slots_items}
use Rattle.md_rule.specs.Closing.{IsLast}
use Rattle.md_words.specs.declared.shape.Shape.{Shape}
use Rattle.md_rule.specs.Private.{HasPrivateWords, words_left}
use Rattle.md_rule.specs.Views.{Origin}
use Rattle.md_machine.specs.declared.pass.PassView.{PassView}
use Rattle.md_rule.proofs.Closes.{last_of, replayed_of}
use Rattle.md_rule.proofs.field.Field.end.Goals as goal

last : goal.returns-clause-last
last g c =
    let M = g.T.Theory.meaning in
    let parts = c.into_parts-seat.ensures in
    let seat = c.into_parts-seat.result.0 in
    let me = parts.seat.1 in
    let private = c.into_parts-seat.result.3 in
    let words = words_left private (slots_items c.close_with-table.result.words) in
    let has = subst (λ (s : Shape). HasPrivateWords s private seat.me.0) (c.requires.field.shape ∙ ap (λ (o : Origin). o.shape) (sym c.into_table.ensures.origin)) parts.private in
    let live : 0 < length c.args.pass.view.lanes = rw (← parts.lanes.0) parts.lanes.1.live in
    let l = last_of M _ private seat.id seat.me.0 _ _ has c.close_with-table.ensures.values.2 (rw me live) in
    subst (λ (o : Origin). IsLast M o c.args.pass.view words) c.into_table.ensures.origin
    (subst (λ (v : PassView). IsLast M (record { shape = c.into_table.result.shared.key.shape; words = c.into_table.result.shared.key.words.value.items }) v words) me l)

pub returns-clause-last : goal.returns-clause-last
returns-clause-last g c = last g c

pub returns-clause-replayed : goal.returns-clause-replayed
returns-clause-replayed g c = replayed_of g.T.Theory.meaning c.args.self.origin g.T.Theory.lawful c.args.pass.view _ c.requires.may (last g c)
