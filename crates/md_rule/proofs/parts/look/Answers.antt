use Rattle.std.proofs.Common.{rules, ap}
use Rattle.atomic_table.specs.Table.{State, Seen}
use Rattle.md_rule.specs.declared.known.Known.{Known}
use Rattle.md_rule.specs.Rule.{Shows}
use Rattle.md_rule.proofs.Private.{has_table}
use Rattle.md_rule.proofs.Moves.{may_look}
use Rattle.md_rule.proofs.parts.look.Goals as goal

pub load-requires : goal.load-requires
load-requires g c =
    let M = g.T.Theory.meaning in
    let key = c.field.inside.table.shared.key in
    let me = c.args.seat.now.me.0 in
    let tells : (s : State (Unit {0}) Known) → Seen (Shows M (record { shape = key.shape; words = key.words.value.items })) c.args.seat.now.id me s → g.K.Looking.tells me
    = rw (ap (λ f. f.origin) c.field.view_is) c.requires.tells in
    (search rules, rw c.field.invariant.1 (has_table key.shape), may_look M _ _ _ _ g.K.Looking.tells tells)
