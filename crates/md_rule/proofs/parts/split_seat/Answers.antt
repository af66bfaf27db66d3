use Rattle.std.proofs.Common.{rules, ap, None}
use Rattle.atomic_table.specs.Table.{Splits}
use Rattle.md_rule.specs.Rule.{Shows}
use Rattle.md_rule.proofs.Private.{has_table}
use Rattle.md_rule.proofs.parts.split_seat.Goals as goal

pub split_seat-requires : goal.split_seat-requires
split_seat-requires g c =
    let key = c.field.inside.table.shared.key in
    let me = c.args.seat.now.me.0 in
    let may : Splits {S = Unit {0}} (Shows g.T.Theory.meaning (record { shape = key.shape; words = key.words.value.items })) c.args.seat.now.id me (record me { view = g.K.Halving.kept me.view }) (record { view = g.K.Halving.given me.view; joined = None; private = None })
    = rw (ap (λ f. f.origin) c.field.view_is) c.requires.may in
    (search rules, rw c.field.invariant.1 (has_table key.shape), may)
