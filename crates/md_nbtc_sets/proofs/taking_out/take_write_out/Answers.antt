use Rattle.std.proofs.Common.{◌+◌, sym, ap, ◌∙◌, arith}
use Rattle.md_words.specs.Content.{counted_word, word_of}
use Rattle.md_rule_lanes.proofs.Counting.{count_of_word}
use Rattle.md_nbtc_law.proofs.withdrawals.OneOut.{desc_small, may_take_as, new_small, took_lost_as, took_stands, took_won_as}
use Rattle.md_nbtc_sets.proofs.taking_out.take_write_out.Goals as goal

pub installed-from-requires-clause-desc : goal.installed-from-requires-clause-desc
installed-from-requires-clause-desc g c =
    desc_small g.T.Theory.meaning c.args.field.now.origin c.args.pass.now.view c.args.attempt c.args.write c.requires.installed

pub value_by-value-requires : goal.value_by-value-requires
value_by-value-requires g c =
    let s = c.requires.stands in
    new_small g.T.Theory.meaning c.args.field.now.origin c.args.pass.now.view c.args.attempt c.args.write c.requires.installed c.args.fate c.requires.fate s.machine s.admitted s.pass s.acts

pub uninstall-requires-clause-may : goal.uninstall-requires-clause-may
uninstall-requires-clause-may g c =
    may_take_as g.T.Theory.meaning c.args.field.now.origin c.args.pass.now.view c.args.attempt c.args.write c.requires.installed
    c.args.fate (word_of c.installed-from.result) c.value_by-value.result c.installed-from.ensures.word c.value_by-value.ensures c.requires.fate

pub returns-in-Ok-clause-out : goal.returns-in-Ok-clause-out
returns-in-Ok-clause-out g c =
    let from = c.installed-from.result in
    let room = c.requires.installed.from.room in
    let at = c.installed-from.ensures.count in
    let count = count_of_word from (omega (arith, room, at)) in
    took_won_as g.T.Theory.meaning c.args.field.now.origin c.args.pass.now.view c.args.attempt c.args.write c.requires.installed
    c.args.fate (word_of from) c.value_by-value.result c.installed-from.ensures.word c.value_by-value.ensures c.word.result c.uninstall.new.self.view
    (c.word.ensures.whole ∙ ap (λ n. counted_word c.value_by-value.result (n + 1)) (sym count)) c.in-Ok.ensures.step

pub returns-in-Ok-clause-stands : goal.returns-in-Ok-clause-stands
returns-in-Ok-clause-stands g c =
    let from = c.installed-from.result in
    took_stands g.T.Theory.meaning c.args.field.now.origin c.args.pass.now.view c.args.attempt c.args.write c.requires.installed
    c.args.fate (word_of from) c.value_by-value.result c.installed-from.ensures.word c.value_by-value.ensures (word_of from) c.word.result c.uninstall.new.self.view
    c.in-Ok.ensures.step (returns-in-Ok-clause-out g c)

pub returns-in-Err-clause-out : goal.returns-in-Err-clause-out
returns-in-Err-clause-out g c =
    let step = c.in-Err.ensures.step in
    took_lost_as g.T.Theory.meaning c.args.field.now.origin c.args.pass.now.view c.args.attempt c.args.write c.requires.installed
    c.args.fate (word_of c.installed-from.result) c.value_by-value.result c.installed-from.ensures.word c.value_by-value.ensures c.in-Err.found c.uninstall.new.self.view
    step.0 step.1

pub returns-in-Err-clause-stands : goal.returns-in-Err-clause-stands
returns-in-Err-clause-stands g c =
    took_stands g.T.Theory.meaning c.args.field.now.origin c.args.pass.now.view c.args.attempt c.args.write c.requires.installed
    c.args.fate (word_of c.installed-from.result) c.value_by-value.result c.installed-from.ensures.word c.value_by-value.ensures c.in-Err.found c.in-Err.found c.uninstall.new.self.view
    c.in-Err.ensures.step.1 (returns-in-Err-clause-out g c)
