use Rattle.std.proofs.Common.{◌≡◌, ◌≢◌, ◌==◌, ◌<◌, ℕ, rules, sym, ap, subst, ◌∙◌, slice_index, slice_set, Result, Ok, Err, MatchResult}
use prog.Atomic.{either}
use Rattle.std.specs.Vec.{with_items}
use Rattle.md_words.specs.Layout.{words_of}
use Rattle.md_rule.specs.Steps.{MayTell}
use Rattle.md_rule.specs.Views.{Origin}
use Rattle.md_rule.proofs.Moves.{may_put, may_step}
use Rattle.md_rule.proofs.Private.{fits_table, in_pass, in_table, items_put}
use Rattle.md_rule.proofs.words.exchange_word.Goals as goal

-- what is told of the word that was found, is told of the answer
told_by : (P : ℕ → Type 0) (found from : ℕ) (r : Result (Unit {0}) ℕ) → MatchResult r (λ _. found ≡ from) (λ held. (held ≡ found) × (held ≢ from)) → P found
    → MatchResult r (λ _. P from) (λ held. (held ≢ from) × P held)
told_by P found from (Ok _) is told = subst P is told
told_by P found from (Err held) is told = (is.1, subst P (sym is.0) told)

pub compare_exchange-found-requires : goal.compare_exchange-found-requires
compare_exchange-found-requires g c =
    let M = g.T.Theory.meaning in
    let key = c.field.inside.table.shared.key in
    let o : Origin = record { shape = key.shape; words = key.words.value.items } in
    let origin = ap (λ f. f.origin) c.field.view_is in
    let left : ℕ → ℕ = λ found. either (found == c.args.from) c.args.to found in
    let may : MayTell M o c.args.seat.now.me.0.view c.args.word left g.K.Telling.tells = rw origin c.requires.may in
    let more = subst (λ (x : Origin). x.shape.lanes ≢ 1) (sym origin) (in_table c.args.field.now.origin.shape _ _ c.requires.private c.in-None.is) in
    let fits = subst (λ (x : Origin). c.args.word < words_of x.shape) (sym origin) c.requires.field.1 in
    (search rules, fits_table key.shape _ _ c.field.invariant.1 more fits, may_step M _ _ _ _ _ left g.K.Telling.tells more c.requires.live may)

pub follow-requires-clause-may : goal.follow-requires-clause-may
follow-requires-clause-may g c = λ s seen.
    let M = g.T.Theory.meaning in
    let o = c.args.field.now.origin in
    let mine = c.in-Some.words in
    let me = c.args.seat.now.me.0 in
    let word = c.args.word in
    let left : ℕ → ℕ = λ found. either (found == c.args.from) c.args.to found in
    let tells = g.K.Telling.tells in
    let has = in_pass o.shape _ _ mine c.requires.private c.in-Some.is in
    let traded = c.exchange_private-found.ensures in
    let row = c.deref_mut.ensures.value in
    let found : c.exchange_private-found.result ≡ slice_index mine.items word = traded.found ∙ ap (λ l. slice_index l word) row in
    let set : c.exchange_private-found.new.words ≡ slice_set mine.items word (left (slice_index mine.items word)) = traded.words ∙ ap (λ l. slice_set l word (left c.exchange_private-found.result)) row ∙ ap (λ n. slice_set mine.items word (left n)) found in
    let told = may_put M o _ me word left tells mine (with_items mine c.exchange_private-found.new.words) has.0 has.2 (items_put mine word (left (slice_index mine.items word)) _ set) c.requires.live c.requires.may s seen in
    (told.0, told.1, (subst (λ n. tells n me.view told.0.view) (sym found) told.2, told.3, told.4 ∙ sym c.of.ensures))

pub returns-clause-told : goal.returns-clause-told
returns-clause-told g c = told_by (λ n. g.K.Telling.tells n c.args.seat.now.me.0.view c.match-private.seat.me.0.view) c.match-private.found c.args.from c.answered.result c.answered.ensures (search rules depth 1)
