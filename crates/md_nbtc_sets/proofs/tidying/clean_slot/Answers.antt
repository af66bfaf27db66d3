use Rattle.std.proofs.Common.{◌≡◌, IfSome, subst}
use Rattle.md_words.specs.Layout.{address}
use Rattle.md_words.specs.Place.{node_next}
use Rattle.md_nbtc_law.specs.Cleaning.{cleanup_node}
use Rattle.md_nbtc_law.specs.Deciding.{MayClean, TookOut}
use Rattle.md_nbtc_law.proofs.tidyings.Slots.{slot_none, slot_one}
use Rattle.md_nbtc_sets.proofs.tidying.clean_slot.Goals as goal

pub clean_up-requires-clause-may : goal.clean_up-requires-clause-may
clean_up-requires-clause-may g c =
    let o = c.args.field.now.origin in
    (subst (λ x. IfSome x (λ y. MayClean g.T.Theory.meaning o c.args.pass.now.view y × (c.args.slot.write.word ≡ address o.shape (node_next (cleanup_node y))))) c.in-Some.is c.requires.may).0

pub clean_up-requires-clause-out : goal.clean_up-requires-clause-out
clean_up-requires-clause-out g c =
    let out = c.requires.out in
    (out.0, subst (λ x. IfSome x (λ y. TookOut c.args.field.now.origin.shape c.args.pass.now.view y c.args.left out.0)) c.in-Some.is out.1)

pub returns-in-Some-clause-cleans : goal.returns-in-Some-clause-cleans
returns-in-Some-clause-cleans g c out took =
    let o = c.args.field.now.origin in
    let p = c.args.pass.now.view in
    slot_one o.shape c.args.slot out c.in-Some.cleanup p c.clean_up.new.pass.view c.in-Some.is
    (c.clean_up.ensures.cleaned out (subst (λ x. IfSome x (λ y. TookOut o.shape p y c.args.left out)) c.in-Some.is took))

pub returns-in_default-clause-cleans : goal.returns-in_default-clause-cleans
returns-in_default-clause-cleans g c out took = slot_none c.args.field.now.origin.shape c.args.slot out c.args.pass.now.view c.in_default.is
