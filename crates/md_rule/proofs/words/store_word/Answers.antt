use Rattle.std.proofs.Common.{◌≢◌, ◌<◌, rules, slice_set, sym, ap, subst, ◌∙◌}
use Rattle.std.specs.Vec.{with_items}
use Rattle.md_words.specs.Layout.{words_of}
use Rattle.md_rule.specs.Steps.{MayTell}
use Rattle.md_rule.specs.Views.{Origin}
use Rattle.md_rule.proofs.Moves.{may_put, may_step}
use Rattle.md_rule.proofs.Private.{fits_table, in_pass, in_table, items_put, still_has}
use Rattle.md_rule.proofs.words.store_word.Goals as goal

pub store-requires : goal.store-requires
store-requires g c =
    let M = g.T.Theory.meaning in
    let key = c.field.inside.table.shared.key in
    let o : Origin = record { shape = key.shape; words = key.words.value.items } in
    let origin = ap (λ f. f.origin) c.field.view_is in
    let may : MayTell M o c.args.seat.now.me.0.view c.args.word (λ _. c.args.value) (λ _. g.K.Telling.tells c.args.value) = rw origin c.requires.may in
    let more = subst (λ (x : Origin). x.shape.lanes ≢ 1) (sym origin) (in_table c.args.field.now.origin.shape _ _ c.requires.private c.in-None.is) in
    let fits = subst (λ (x : Origin). c.args.word < words_of x.shape) (sym origin) c.requires.field.1 in
    (search rules, fits_table key.shape _ _ c.field.invariant.1 more fits, may_step M _ _ _ _ _ (λ _. c.args.value) (λ _. g.K.Telling.tells c.args.value) more c.requires.live may)

pub follow-requires-clause-may : goal.follow-requires-clause-may
follow-requires-clause-may g c = λ s seen.
    let M = g.T.Theory.meaning in
    let o = c.args.field.now.origin in
    let mine = c.in-Some.words in
    let has = in_pass o.shape _ _ mine c.requires.private c.in-Some.is in
    let set = c.store_private.ensures ∙ ap (λ l. slice_set l c.args.word c.args.value) c.deref_mut.ensures.value in
    let told = may_put M o _ _ c.args.word (λ _. c.args.value) (λ _. g.K.Telling.tells c.args.value) mine (with_items mine c.store_private.new.words) has.0 has.2 (items_put mine c.args.word c.args.value _ set) c.requires.live c.requires.may s seen in
    (told.0, told.1, (told.2, told.3, told.4 ∙ sym c.of.ensures))

pub returns-in-Some-clause-private : goal.returns-in-Some-clause-private
returns-in-Some-clause-private g c =
    let mine = c.in-Some.words in
    let shape = c.args.field.now.origin.shape in
    let has = in_pass shape _ _ mine c.requires.private c.in-Some.is in
    let set = c.store_private.ensures ∙ ap (λ l. slice_set l c.args.word c.args.value) c.deref_mut.ensures.value in
    still_has shape mine _ _ c.args.word c.args.value has.0 has.1 (items_put mine c.args.word c.args.value _ set) (c.follow.ensures.follows.2 ∙ c.of.ensures)
