use Rattle.std.proofs.Common.{rules, ap}
use Rattle.atomic_table.specs.Table.{State, Seen}
use Rattle.md_rule.specs.declared.known.Known.{Known}
use Rattle.md_rule.specs.Private.{with_view}
use Rattle.md_rule.specs.Rule.{Shows}
use Rattle.md_rule.specs.Views.{Origin}
use Rattle.md_rule.proofs.Moves.{may_follow}
use Rattle.md_rule.proofs.Private.{has_table}
use Rattle.md_rule.proofs.words.follow.Goals as goal

pub load-requires : goal.load-requires
load-requires g c =
    let M = g.T.Theory.meaning in
    let key = c.field.inside.table.shared.key in
    let o : Origin = record { shape = key.shape; words = key.words.value.items } in
    let id = c.args.seat.now.id in
    let me = c.args.seat.now.me.0 in
    let follows = g.K.Following.follows in
    let may : (s : State (Unit {0}) Known) → Seen (Shows M o) id me s → (now : Known) × Shows M o (with_view s id now) × follows me now
    = rw (ap (λ f. f.origin) c.field.view_is) c.requires.may in
    (search rules, rw c.field.invariant.1 (has_table key.shape), may_follow M o _ id _ follows may)
