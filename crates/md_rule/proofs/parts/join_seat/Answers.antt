use Rattle.std.proofs.Common.{rules, ap, Some, None}
use Rattle.atomic_table.specs.Table.{Joins}
use Rattle.md_machine.specs.events.SplitJoin.{spent}
use Rattle.md_rule.specs.Rule.{Shows}
use Rattle.md_rule.proofs.Private.{has_table}
use Rattle.md_rule.proofs.parts.join_seat.Goals as goal

pub join_seat-requires : goal.join_seat-requires
join_seat-requires g c =
    let key = c.field.inside.table.shared.key in
    let me = c.args.seat.now.me.0 in
    let may : Joins {S = Unit {0}} (Shows g.T.Theory.meaning (record { shape = key.shape; words = key.words.value.items })) c.args.seat.now.id me c.args.other.id c.args.other.me.0 (record { view = g.K.Joining.joined me.view c.args.other.me.0.view; joined = Some (record { one = me.view; other = c.args.other.me.0.view }); private = me.private }) (record { view = spent; joined = None; private = None })
    = rw (ap (λ f. f.origin) c.field.view_is) c.requires.may in
    (search rules, search rules, c.requires.bare, rw c.field.invariant.1 (has_table key.shape), may)
