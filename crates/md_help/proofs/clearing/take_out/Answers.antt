use Rattle.std.proofs.Common.{◌≡◌, ◌+◌, ◌≤◌, refl, sym, ap, subst, ◌∙◌, inl, inr}
use Rattle.md_words.specs.Content.{counted_word, word_of}
use Rattle.md_machine.specs.declared.step.Kind.TheVariants.{Uninstall}
use Rattle.md_machine.specs.declared.step.TheConstants.{LAST_COUNT}
use Rattle.md_machine.specs.Event.{uninstall}
use Rattle.md_machine.specs.events.Uninstall.{uninstalled_word}
use Rattle.md_rule_lanes.proofs.Counting.{count_of_word}
use Rattle.md_rule.specs.Views.{PassState}
use Rattle.md_help.specs.Clears.{TakenOut, fate_of}
use Rattle.md_help.proofs.Decided.{decided_found, found_rises}
use Rattle.md_help.proofs.Flagged.{flagged_uninstall}
use Rattle.md_help.proofs.Steps.{stands_made}
use Rattle.md_help.proofs.Taking.{count_rises, fate_decided, may_uninstall, taken_out, uninstall_lost, uninstall_won}
use Rattle.md_help.proofs.clearing.take_out.Goals as goal

pub uninstall-requires-clause-may : goal.uninstall-requires-clause-may
uninstall-requires-clause-may g c =
    may_uninstall g.T.Theory.meaning c.args.field.now.origin c.args.pass.now.view c.slot_value-value.new.pass.view c.args.word (word_of c.args.found) c.slot_value-value.result (fate_of c.args.end) c.requires.slot.counted c.requires.slot.odd (fate_decided c.args.end) c.requires.saw c.slot_value-value.ensures.loaded

pub returns-in-Ok-clause-steps : goal.returns-in-Ok-clause-steps
returns-in-Ok-clause-steps g c =
    let M = g.T.Theory.meaning in
    let o = c.args.field.now.origin in
    let from = word_of c.args.found in
    let value = c.slot_value-value.result in
    let q = c.slot_value-value.new.pass.view in
    let r = c.uninstall.new.self.view in
    record {
      same = c.uninstall.ensures.same ∙ ap (λ (x : PassState). record x { view = c.uninstall.new.self.view }) c.slot_value-value.ensures.same;
      stands = stands_made M o (λ pass. uninstall pass c.args.word from value) Uninstall c.args.word from (uninstalled_word from value) q r c.in-Ok.ensures.step.0 (uninstall_won M o c.args.word from value q r c.in-Ok.ensures.step);
    }

pub returns-in-Ok-clause-taken : goal.returns-in-Ok-clause-taken
returns-in-Ok-clause-taken g c =
    let M = g.T.Theory.meaning in
    let o = c.args.field.now.origin in
    let from = word_of c.args.found in
    let value = c.slot_value-value.result in
    let p = c.args.pass.now.view in
    let q = c.slot_value-value.new.pass.view in
    let r = c.uninstall.new.self.view in
    let count = count_of_word c.args.found c.requires.slot.fits in
    let is : c.word.result ≡ uninstalled_word from value = c.word.ensures.whole ∙ ap (λ n. counted_word value (n + 1)) (sym count) in
    let take = uninstall_won M o c.args.word from value q r c.in-Ok.ensures.step in
    subst (λ left. TakenOut o.shape c.args.word from (fate_of c.args.end) left p r) (sym is)
    (taken_out o.shape c.args.word from value from (uninstalled_word from value) (fate_of c.args.end) p q r c.slot_value-value.ensures.loaded take
    (inl (refl, refl)) (count_rises from value (subst (λ n. n ≤ LAST_COUNT + 1) (sym count) c.requires.slot.fits))
    (flagged_uninstall M o c.args.word from value from (uninstalled_word from value) q r take c.in-Ok.ensures.step.0))

pub returns-in-Err-clause-steps : goal.returns-in-Err-clause-steps
returns-in-Err-clause-steps g c =
    let M = g.T.Theory.meaning in
    let o = c.args.field.now.origin in
    let from = word_of c.args.found in
    let value = c.slot_value-value.result in
    let q = c.slot_value-value.new.pass.view in
    let r = c.uninstall.new.self.view in
    let step = c.in-Err.ensures.step in
    record {
      same = c.uninstall.ensures.same ∙ ap (λ (x : PassState). record x { view = c.uninstall.new.self.view }) c.slot_value-value.ensures.same;
      stands = stands_made M o (λ pass. uninstall pass c.args.word from value) Uninstall c.args.word c.in-Err.left c.in-Err.left q r step.1.0 (uninstall_lost M o c.args.word from value c.in-Err.left q r step.0 step.1);
    }

pub returns-in-Err-clause-taken : goal.returns-in-Err-clause-taken
returns-in-Err-clause-taken g c =
    let M = g.T.Theory.meaning in
    let o = c.args.field.now.origin in
    let from = word_of c.args.found in
    let value = c.slot_value-value.result in
    let p = c.args.pass.now.view in
    let q = c.slot_value-value.new.pass.view in
    let r = c.uninstall.new.self.view in
    let step = c.in-Err.ensures.step in
    let take = uninstall_lost M o c.args.word from value c.in-Err.left q r step.0 step.1 in
    taken_out o.shape c.args.word from value c.in-Err.left c.in-Err.left (fate_of c.args.end) p q r c.slot_value-value.ensures.loaded take (inr (step.0, refl))
    (found_rises M o (λ pass. uninstall pass c.args.word from value) c.args.word from c.in-Err.left q r c.requires.slot.counted
    (decided_found o.shape c.args.word from value (fate_of c.args.end) (fate_of c.args.end) p q c.requires.saw c.slot_value-value.ensures.loaded) step.0 step.1)
    (flagged_uninstall M o c.args.word from value c.in-Err.left c.in-Err.left q r take step.1.0)
