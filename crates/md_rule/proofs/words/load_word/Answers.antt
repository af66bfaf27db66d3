use Rattle.std.proofs.Common.{◌≡◌, ◌≢◌, ◌<◌, slice_index, rules, sym, ap, subst, ◌∙◌}
use Rattle.std.proofs.lemmas.List.{set-get_or}
use Rattle.md_words.specs.Layout.{words_of}
use Rattle.md_rule.specs.Steps.{MayTell}
use Rattle.md_rule.specs.Views.{Origin}
use Rattle.md_rule.proofs.Moves.{may_put, may_step}
use Rattle.md_rule.proofs.Private.{fits_table, in_pass, in_table}
use Rattle.md_rule.proofs.words.load_word.Goals as goal

pub load-requires : goal.load-requires
load-requires g c =
    let M = g.T.Theory.meaning in
    let key = c.field.inside.table.shared.key in
    let o : Origin = record { shape = key.shape; words = key.words.value.items } in
    let origin = ap (λ f. f.origin) c.field.view_is in
    let may : MayTell M o c.args.seat.now.me.0.view c.args.word (λ held. held) g.K.Telling.tells = rw origin c.requires.may in
    let more = subst (λ (x : Origin). x.shape.lanes ≢ 1) (sym origin) (in_table c.args.field.now.origin.shape _ _ c.requires.private c.in-None.is) in
    let fits = subst (λ (x : Origin). c.args.word < words_of x.shape) (sym origin) c.requires.field.1 in
    (search rules, fits_table key.shape _ _ c.field.invariant.1 more fits, may_step M _ _ _ _ _ (λ held. held) g.K.Telling.tells more c.requires.live may)

pub follow-requires-clause-may : goal.follow-requires-clause-may
follow-requires-clause-may g c = λ s seen.
    let M = g.T.Theory.meaning in
    let o = c.args.field.now.origin in
    let mine = c.in-Some.words in
    let me = c.args.seat.now.me.0 in
    let word = c.args.word in
    let tells = g.K.Telling.tells in
    let has = in_pass o.shape _ _ mine c.requires.private c.in-Some.is in
    let held : c.load_private-held.result ≡ slice_index mine.items word = c.load_private-held.ensures ∙ ap (λ l. slice_index l word) c.deref.ensures.value in
    let told = may_put M o _ me word (λ found. found) tells mine mine has.0 has.2 (sym (set-get_or mine.items word 0)) c.requires.live c.requires.may s seen in
    (told.0, told.1, (subst (λ n. tells n me.view told.0.view) (sym held) told.2, told.3, told.4 ∙ sym c.in-Some.is ∙ sym c.of.ensures))
