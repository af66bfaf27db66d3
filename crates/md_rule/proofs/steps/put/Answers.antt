use Rattle.std.proofs.Common.{◌+◌, ap, sym, subst, ◌∙◌, arith}
use Rattle.md_words.specs.Content.{word_of, counted_word, spot_value}
use Rattle.md_rule.specs.Steps.{Exchanged, MayTell, SteppedFrom}
use Rattle.md_machine.specs.Event.{install}
use Rattle.md_rule_lanes.proofs.Counting.{counts_more}
use Rattle.md_rule.proofs.Events.{exchange_tells, is_install, traded}
use Rattle.md_words.proofs.Places.{descs_fit_values}
use Rattle.md_rule.proofs.steps.put.Goals as goal

pub exchange_word-requires-clause-may : goal.exchange_word-requires-clause-may
exchange_word-requires-clause-may g c =
    let M = g.T.Theory.meaning in
    let o = c.args.field.now.origin in
    let view = c.args.seat.now.me.0.view in
    let word = c.args.word in
    subst (λ about. MayTell M o view word (traded c.word.result c.word-2.result) (SteppedFrom M o (λ pass. install pass word (word_of about.0) about.1) word)) (sym c.of-about.ensures)
    (exchange_tells M o _ view word (word_of c.args.from) _ c.word.result c.word-2.result c.requires.may (is_install M o view word (word_of c.args.from) c.args.to) c.word.ensures.whole
    (counts_more c.args.from (spot_value c.args.to) 1 c.word-2.result (let fits = c.requires.fits.0 in omega (arith, fits)) (c.word-2.ensures.whole ∙ ap (λ n. counted_word n (c.args.from.count + 1)) c.value.ensures.whole)))

pub returns-clause-step : goal.returns-clause-step
returns-clause-step g c =
    let M = g.T.Theory.meaning in
    let o = c.args.field.now.origin in
    let word = c.args.word in
    subst (λ about. Exchanged M o (λ pass. install pass word (word_of about.0) about.1) word (word_of c.args.from) c.exchange_word.result c.args.seat.now.me.0.view c.exchange_word.new.seat.me.0.view) c.of-about.ensures
    (subst (λ n. Exchanged M o (λ pass. install pass word (word_of c.of-about.result.value.0) c.of-about.result.value.1) word n c.exchange_word.result c.args.seat.now.me.0.view c.exchange_word.new.seat.me.0.view) c.word.ensures.whole c.exchange_word.ensures.told)

pub value-requires : goal.value-requires
value-requires g c = descs_fit_values c.args.field.now.origin.shape c.args.to.desc c.requires.fits.1
