use Rattle.std.proofs.Common.{◌≤◌, ◌+◌, sym, subst}
use Rattle.md_words.specs.Content.{word_of}
use Rattle.md_machine.specs.declared.step.TheConstants.{LAST_COUNT}
use Rattle.md_rule_lanes.proofs.Counting.{count_of_word}
use Rattle.md_nbtc_law.proofs.beginning.SlotsOut.{may_take_out, takes_out}
use Rattle.md_nbtc_sets.proofs.begin.take_out.Goals as goal

pub uninstall-requires-clause-may : goal.uninstall-requires-clause-may
uninstall-requires-clause-may g c =
    may_take_out g.T.Theory.meaning c.args.field.now.origin c.args.pass.now.view c.slot_value-value.new.pass.view c.args.word (word_of c.args.found) c.slot_value-value.result c.args.end
    c.requires.spot c.slot_value-value.ensures.loaded

pub returns-clause-higher : goal.returns-clause-higher
returns-clause-higher g c =
    takes_out g.T.Theory.meaning c.args.field.now.origin c.args.pass.now.view c.slot_value-value.new.pass.view c.args.word (word_of c.args.found) c.slot_value-value.result c.args.end
    c.requires.spot c.slot_value-value.ensures.loaded c.uninstall.new.self.view c.uninstall.result
    (subst (λ n. n ≤ LAST_COUNT + 1) (sym (count_of_word c.args.found c.requires.fits)) c.requires.fits) c.uninstall.ensures.step
