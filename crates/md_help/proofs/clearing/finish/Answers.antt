use Rattle.std.proofs.Common.{◌<◌, sym, ap, subst, ◌∙◌, inr, rules}
use Rattle.md_words.specs.declared.shape.Shape.{Shape}
use Rattle.md_words.specs.declared.content.Spot.{Spot}
use Rattle.md_words.specs.Content.{word_of}
use Rattle.md_words.specs.Layout.{desc_count}
use Rattle.md_machine.specs.declared.step.Kind.TheVariants.{Load}
use Rattle.md_machine.specs.Event.{load}
use Rattle.md_machine.specs.events.Decide.{HasMet}
use Rattle.md_machine.specs.events.Uninstall.{desc_in}
use Rattle.md_rule.specs.Kept.{IsReached}
use Rattle.md_rule.specs.Views.{PassState}
use Rattle.md_help.specs.declared.settling.End.TheVariants.{Gone}
use Rattle.md_help.specs.Settles.{MetStatus, Settled}
use Rattle.md_help.proofs.Finishing.{finishes_gone, finishes_taken, saw_decided, saw_met, saw_status}
use Rattle.md_help.proofs.Flagged.{flagged_load}
use Rattle.md_help.proofs.Steps.{made_load, stands_made}
use Rattle.md_help.proofs.Taking.{gone_rises}
use Rattle.md_help.proofs.clearing.finish.Goals as goal

pub settle-end-requires-clause-attempt : goal.settle-end-requires-clause-attempt
settle-end-requires-clause-attempt g c =
    let shape = c.args.field.now.origin.shape in
    let p = c.args.pass.now.view in
    record {
      exists = subst (λ (s : Spot). s.desc < desc_count c.args.field.now.origin.shape) (sym c.spot_in-desc.ensures) c.requires.slot.exists.0;
      reached = subst (λ (s : Spot). IsReached c.args.pass.now s.desc) (sym c.spot_in-desc.ensures)
          (inr (subst (λ (h : Shape). HasMet h p (desc_in (word_of c.args.found))) (sym c.requires.field.shape)
          (saw_met shape c.args.word (word_of c.args.found) c.args.status p c.requires.slot.counted c.requires.slot.odd c.requires.saw)));
      met = subst (λ (s : Spot). MetStatus shape p s.desc c.args.status) (sym c.spot_in-desc.ensures) (saw_status shape c.args.word (word_of c.args.found) c.args.status p c.requires.saw);
    }

pub take_out-left-requires-clause-field : goal.take_out-left-requires-clause-field
take_out-left-requires-clause-field g c =
    let same = c.settle-end.ensures.steps.same in
    record { table = ap (λ (x : PassState). x.table) same ∙ c.requires.field.table; shape = ap (λ (x : PassState). x.shape) same ∙ c.requires.field.shape }

pub take_out-left-requires-clause-saw : goal.take_out-left-requires-clause-saw
take_out-left-requires-clause-saw g c =
    let shape = c.args.field.now.origin.shape in
    let p = c.args.pass.now.view in
    let q = c.settle-end.new.pass.view in
    saw_decided shape c.args.word (word_of c.args.found) c.args.status c.settle-end.result p q c.in_default.not-Gone c.requires.saw
    (subst (λ (s : Spot). Settled shape s.desc c.args.status 2 c.settle-end.result p q) c.spot_in-desc.ensures c.settle-end.ensures.settled)

pub returns-in-Gone-clause-steps : goal.returns-in-Gone-clause-steps
returns-in-Gone-clause-steps g c =
    let M = g.T.Theory.meaning in
    let o = c.args.field.now.origin in
    let q = c.settle-end.new.pass.view in
    let r = c.load-left.new.self.view in
    record {
      same = c.load-left.ensures.same ∙ ap (λ (x : PassState). record x { view = c.load-left.new.self.view }) c.settle-end.ensures.steps.same;
      stands = stands_made M o (λ pass. load pass c.args.word) Load c.args.word c.load-left.result c.load-left.result q r c.load-left.ensures.step.0 (made_load M o c.args.word c.load-left.result q r c.load-left.ensures.step);
    }

pub returns-in-Gone-clause-finishes : goal.returns-in-Gone-clause-finishes
returns-in-Gone-clause-finishes g c =
    let M = g.T.Theory.meaning in
    let o = c.args.field.now.origin in
    let from = word_of c.args.found in
    let p = c.args.pass.now.view in
    let q = c.settle-end.new.pass.view in
    let r = c.load-left.new.self.view in
    let t = subst (λ e. Settled o.shape (c.spot_in-desc.result).desc c.args.status 2 e p q) c.in-Gone.is c.settle-end.ensures.settled in
    let s = subst (λ (s : Spot). Settled o.shape s.desc c.args.status 2 Gone p q) c.spot_in-desc.ensures t in
    let last = made_load M o c.args.word c.load-left.result q r c.load-left.ensures.step in
    finishes_gone o.shape c.args.word from c.args.status c.load-left.result p q r s last (flagged_load M o c.args.word c.load-left.result c.load-left.result q r last c.load-left.ensures.step.0)
    (gone_rises M o c.args.word from c.args.status c.load-left.result s.steps p q r c.requires.slot.counted c.requires.slot.odd c.requires.saw s.goes s.ends c.load-left.ensures.step)

pub returns-in_default-clause-steps : goal.returns-in_default-clause-steps
returns-in_default-clause-steps g c = record {
  same = c.take_out-left.ensures.steps.same ∙ ap (λ (x : PassState). record x { view = c.take_out-left.new.pass.view }) c.settle-end.ensures.steps.same;
  stands = search rules;
}

pub returns-in_default-clause-finishes : goal.returns-in_default-clause-finishes
returns-in_default-clause-finishes g c =
    let shape = c.args.field.now.origin.shape in
    let p = c.args.pass.now.view in
    let q = c.settle-end.new.pass.view in
    finishes_taken shape c.args.word (word_of c.args.found) c.args.status c.take_out-left.result c.settle-end.result p q c.take_out-left.new.pass.view c.in_default.not-Gone
    (subst (λ (s : Spot). Settled shape s.desc c.args.status 2 c.settle-end.result p q) c.spot_in-desc.ensures c.settle-end.ensures.settled) c.take_out-left.ensures.taken
