use Rattle.std.proofs.Common.{◌+◌, ◌≤◌, ◌∷◌, [], sym, ap, subst, ◌∙◌}
use Rattle.md_words.specs.declared.content.Content.{Content}
use Rattle.md_words.specs.declared.content.Spot.{Spot}
use Rattle.md_words.specs.Content.{count_of, word_of}
use Rattle.md_words.specs.Layout.{address}
use Rattle.md_words.specs.Place.{desc_status}
use Rattle.md_machine.specs.declared.step.Kind.TheVariants.{Load}
use Rattle.md_machine.specs.declared.step.TheConstants.{LAST_COUNT}
use Rattle.md_machine.specs.Event.{load}
use Rattle.md_machine.specs.events.Uninstall.{desc_in, status_of_desc}
use Rattle.md_rule.specs.Steps.{SteppedFrom}
use Rattle.md_rule.specs.Views.{PassState}
use Rattle.md_help.specs.declared.settling.End.TheVariants.{Gone}
use Rattle.md_help.proofs.Decided.{cleared_decided, found_after, found_rises}
use Rattle.md_help.proofs.Deciding.{newer_few}
use Rattle.md_help.proofs.Finishing.{clears_gone, clears_later, found_fits, saw_twice, spot_exists}
use Rattle.md_help.proofs.Flagged.{flagged_load}
use Rattle.md_help.proofs.Steps.{made_load, stands_made}
use Rattle.md_help.proofs.clearing.clear.Goals as goal

pub returns-then-moved-clause-stands : goal.returns-then-moved-clause-stands
returns-then-moved-clause-stands g c =
    let M = g.T.Theory.meaning in
    let o = c.args.field.now.origin in
    let q = c.load-status.new.self.view in
    let r = c.load-left.new.self.view in
    stands_made M o (λ pass. load pass c.args.word) Load c.args.word c.load-left.result c.load-left.result q r c.load-left.ensures.step.0 (made_load M o c.args.word c.load-left.result q r c.load-left.ensures.step)

pub returns-then-moved-clause-clears : goal.returns-then-moved-clause-clears
returns-then-moved-clause-clears g c =
    let M = g.T.Theory.meaning in
    let o = c.args.field.now.origin in
    let from = word_of c.args.found in
    let p = c.args.pass.now.view in
    let q = c.load-status.new.self.view in
    let r = c.load-left.new.self.view in
    let at = c.status.ensures.place ∙ ap (λ s. address s (desc_status c.spot_in-desc.result.desc)) c.shape.ensures ∙ ap (λ (s : Spot). address o.shape (desc_status s.desc)) c.spot_in-desc.ensures in
    let step = subst (λ w. SteppedFrom M o (λ pass. load pass w) w c.load-status.result p q) at c.load-status.ensures.step in
    let look = made_load M o c.args.word c.load-left.result q r c.load-left.ensures.step in
    let ask = made_load M o (status_of_desc o.shape from) c.load-status.result p q step in
    clears_gone o.shape c.args.word from c.load-status.result c.load-left.result p q r ask look (flagged_load M o c.args.word c.load-left.result c.load-left.result q r look c.load-left.ensures.step.0)
    (found_rises M o (λ pass. load pass c.args.word) c.args.word from c.load-left.result q r c.requires.way.counted
    (found_after o.shape c.args.word from (ask.step ∷ []) p q ask.goes c.requires.way.met) (λ e. c.if-moved.true (e ∙ sym c.word.ensures.whole)) c.load-left.ensures.step)

pub finish-requires-clause-stands : goal.finish-requires-clause-stands
finish-requires-clause-stands g c =
    let M = g.T.Theory.meaning in
    let o = c.args.field.now.origin in
    let q = c.load-status.new.self.view in
    let r = c.load-left.new.self.view in
    stands_made M o (λ pass. load pass c.args.word) Load c.args.word c.load-left.result c.load-left.result q r c.load-left.ensures.step.0 (made_load M o c.args.word c.load-left.result q r c.load-left.ensures.step)

pub finish-requires-clause-slot : goal.finish-requires-clause-slot
finish-requires-clause-slot g c =
    let M = g.T.Theory.meaning in
    let o = c.args.field.now.origin in
    let q = c.load-status.new.self.view in
    let r = c.load-left.new.self.view in
    let again = subst (λ x. SteppedFrom M o (λ pass. load pass c.args.word) c.args.word x q r) (c.if-moved.false ∙ c.word.ensures.whole) c.load-left.ensures.step in
    let count = ap (λ x. count_of x) (sym c.word.ensures.whole) ∙ ap (λ (x : Content). x.count) c.word.ensures.inverse in
    record {
      counted = c.requires.way.counted;
      odd = c.requires.way.odd;
      fits = subst (λ n. n ≤ LAST_COUNT + 1) count (found_fits M o c.args.word (word_of c.args.found) q r c.requires.way.counted c.requires.way.odd again);
      exists = spot_exists M o c.status.result c.args.word (word_of c.args.found) c.load-status.result c.args.pass.now.view c.load-status.new.self.view c.requires.way.counted c.requires.way.odd c.requires.way.met c.load-status.ensures.step;
    }

pub finish-requires-clause-few : goal.finish-requires-clause-few
finish-requires-clause-few g c =
    let M = g.T.Theory.meaning in
    let o = c.args.field.now.origin in
    let from = word_of c.args.found in
    let p = c.args.pass.now.view in
    let q = c.load-status.new.self.view in
    let at = c.status.ensures.place ∙ ap (λ s. address s (desc_status c.spot_in-desc.result.desc)) c.shape.ensures ∙ ap (λ (s : Spot). address o.shape (desc_status s.desc)) c.spot_in-desc.ensures in
    let step = subst (λ w. SteppedFrom M o (λ pass. load pass w) w c.load-status.result p q) at c.load-status.ensures.step in
    newer_few M o (λ pass. load pass (status_of_desc o.shape from)) p q (desc_in from) c.load-status.result c.requires.way.exists step

pub finish-requires-clause-saw : goal.finish-requires-clause-saw
finish-requires-clause-saw g c =
    let M = g.T.Theory.meaning in
    let o = c.args.field.now.origin in
    let from = word_of c.args.found in
    let p = c.args.pass.now.view in
    let q = c.load-status.new.self.view in
    let r = c.load-left.new.self.view in
    let at = c.status.ensures.place ∙ ap (λ s. address s (desc_status c.spot_in-desc.result.desc)) c.shape.ensures ∙ ap (λ (s : Spot). address o.shape (desc_status s.desc)) c.spot_in-desc.ensures in
    let step = subst (λ w. SteppedFrom M o (λ pass. load pass w) w c.load-status.result p q) at c.load-status.ensures.step in
    let again = subst (λ x. SteppedFrom M o (λ pass. load pass c.args.word) c.args.word x q r) (c.if-moved.false ∙ c.word.ensures.whole) c.load-left.ensures.step in
    saw_twice o.shape c.args.word from c.load-status.result p q r c.requires.way.met (made_load M o (status_of_desc o.shape from) c.load-status.result p q step) (made_load M o c.args.word from q r again)

pub returns-clause-clears : goal.returns-clause-clears
returns-clause-clears g c =
    let M = g.T.Theory.meaning in
    let o = c.args.field.now.origin in
    let from = word_of c.args.found in
    let p = c.args.pass.now.view in
    let q = c.load-status.new.self.view in
    let r = c.load-left.new.self.view in
    let at = c.status.ensures.place ∙ ap (λ s. address s (desc_status c.spot_in-desc.result.desc)) c.shape.ensures ∙ ap (λ (s : Spot). address o.shape (desc_status s.desc)) c.spot_in-desc.ensures in
    let step = subst (λ w. SteppedFrom M o (λ pass. load pass w) w c.load-status.result p q) at c.load-status.ensures.step in
    let again = subst (λ x. SteppedFrom M o (λ pass. load pass c.args.word) c.args.word x q r) (c.if-moved.false ∙ c.word.ensures.whole) c.load-left.ensures.step in
    clears_later o.shape c.args.word from c.load-status.result c.finish.result p q r c.finish.new.pass.view (made_load M o (status_of_desc o.shape from) c.load-status.result p q step) (made_load M o c.args.word from q r again) c.finish.ensures.finishes

pub finish-requires-clause-field : goal.finish-requires-clause-field
finish-requires-clause-field g c =
    let first = c.load-status.ensures.same in
    let second = c.load-left.ensures.same in record {
      table = ap (λ (x : PassState). x.table) second ∙ ap (λ (x : PassState). x.table) first ∙ c.requires.field.table;
      shape = ap (λ (x : PassState). x.shape) second ∙ ap (λ (x : PassState). x.shape) first ∙ c.requires.field.shape;
    }

pub returns-then-moved-clause-same : goal.returns-then-moved-clause-same
returns-then-moved-clause-same g c = c.load-left.ensures.same ∙ ap (λ (x : PassState). record x { view = c.load-left.new.self.view }) c.load-status.ensures.same

pub returns-clause-same : goal.returns-clause-same
returns-clause-same g c =
    c.finish.ensures.steps.same ∙ ap (λ (x : PassState). record x { view = c.finish.new.pass.view })
    (c.load-left.ensures.same ∙ ap (λ (x : PassState). record x { view = c.load-left.new.self.view }) c.load-status.ensures.same)

pub returns-clause-stands : goal.returns-clause-stands
returns-clause-stands g c = c.finish.ensures.steps.stands

pub returns-then-moved-clause-decided : goal.returns-then-moved-clause-decided
returns-then-moved-clause-decided g c =
    cleared_decided g.T.Theory.meaning c.args.field.now.origin c.args.word (word_of c.args.found) (record { end = Gone; left = c.load-left.result })
    c.args.pass.now.view c.load-left.new.self.view c.requires.way.counted (returns-then-moved-clause-clears g c)

pub returns-clause-decided : goal.returns-clause-decided
returns-clause-decided g c =
    cleared_decided g.T.Theory.meaning c.args.field.now.origin c.args.word (word_of c.args.found) c.finish.result
    c.args.pass.now.view c.finish.new.pass.view c.requires.way.counted (returns-clause-clears g c)
