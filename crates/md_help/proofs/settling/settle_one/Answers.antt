use Rattle.std.proofs.Common.{[], ◌∷◌, refl, ap, subst, ◌∙◌}
use Rattle.md_words.specs.Layout.{address}
use Rattle.md_words.specs.Place.{desc_status}
use Rattle.md_words.specs.Status.{serial_of}
use Rattle.md_machine.specs.declared.step.Kind.TheVariants.{Load}
use Rattle.md_machine.specs.Event.{load}
use Rattle.md_rule.specs.Steps.{EventOf, SteppedFrom}
use Rattle.md_rule.specs.Views.{PassState}
use Rattle.md_help.proofs.Deciding.{met_made, newer_few, reached_after}
use Rattle.md_help.proofs.Steps.{both_after, load_finds, made_load, stands_made}
use Rattle.md_help.proofs.Owns.{last_loaded, own_no_later}
use Rattle.md_help.proofs.settling.settle_one.Goals as goal

pub settle-requires-clause-stands : goal.settle-requires-clause-stands
settle-requires-clause-stands g c =
    let M = g.T.Theory.meaning in
    let o = c.args.field.now.origin in
    let p = c.args.pass.now.view in
    let q = c.load-status.new.self.view in
    let step = c.load-status.ensures.step in
    stands_made M o (λ pass. load pass c.status.result) Load c.status.result c.load-status.result c.load-status.result p q step.0 (made_load M o c.status.result c.load-status.result p q step)

pub settle-requires-clause-attempt : goal.settle-requires-clause-attempt
settle-requires-clause-attempt g c = record {
  exists = c.requires.exists;
  reached = (
      let o = c.args.field.now.origin in
      let p = c.args.pass.now.view in
      let q = c.load-status.new.self.view in
      let m = made_load g.T.Theory.meaning o c.status.result c.load-status.result p q c.load-status.ensures.step in
      reached_after o.shape (m.step ∷ []) c.args.pass.now c.load-status.new.self c.args.desc c.load-status.ensures.same m.goes c.requires.reached
      );
  met = (
      let M = g.T.Theory.meaning in
      let o = c.args.field.now.origin in
      let p = c.args.pass.now.view in
      let q = c.load-status.new.self.view in
      let at = c.status.ensures.place ∙ ap (λ s. address s (desc_status c.args.desc)) c.shape.ensures in
      let step = subst (λ w. SteppedFrom M o (λ pass. load pass w) w c.load-status.result p q) at c.load-status.ensures.step in
      met_made o.shape c.args.desc c.load-status.result c.load-status.result Load p q refl (made_load M o _ c.load-status.result p q step)
      );
}

pub settle-requires-clause-few : goal.settle-requires-clause-few
settle-requires-clause-few g c =
    let M = g.T.Theory.meaning in
    let o = c.args.field.now.origin in
    let p = c.args.pass.now.view in
    let q = c.load-status.new.self.view in
    let at = c.status.ensures.place ∙ ap (λ s. address s (desc_status c.args.desc)) c.shape.ensures in
    let step = subst (λ w. SteppedFrom M o (λ pass. load pass w) w c.load-status.result p q) at c.load-status.ensures.step in
    newer_few M o (λ pass. load pass (address o.shape (desc_status c.args.desc))) p q c.args.desc c.load-status.result c.requires.exists step

pub returns-clause-settles : goal.returns-clause-settles
returns-clause-settles g c =
    let M = g.T.Theory.meaning in
    let o = c.args.field.now.origin in
    let p = c.args.pass.now.view in
    let q = c.load-status.new.self.view in
    let at = c.status.ensures.place ∙ ap (λ s. address s (desc_status c.args.desc)) c.shape.ensures in
    let step = subst (λ w. SteppedFrom M o (λ pass. load pass w) w c.load-status.result p q) at c.load-status.ensures.step in
    let m = made_load M o (address o.shape (desc_status c.args.desc)) c.load-status.result p q step in
    let s = c.settle.ensures.settled in record {
      status = c.load-status.result;
      ask = m.step;
      steps = s.steps;
      goes = both_after o.shape (m.step ∷ []) s.steps p q c.settle.new.pass.view m.goes s.goes;
      asks = load_finds o.shape (address o.shape (desc_status c.args.desc)) c.load-status.result c.load-status.result p q m;
      few = s.few;
      by_status = s.by_status;
      changes = s.changes;
      ends = s.ends;
    }

pub returns-clause-own : goal.returns-clause-own
returns-clause-own g c own =
    let M = g.T.Theory.meaning in
    let o = c.args.field.now.origin in
    let p = c.args.pass.now.view in
    let q = c.load-status.new.self.view in
    let at = c.status.ensures.place ∙ ap (λ s. address s (desc_status c.args.desc)) c.shape.ensures in
    let step = subst (λ w. SteppedFrom M o (λ pass. load pass w) w c.load-status.result p q) at c.load-status.ensures.step in
    let event : EventOf = λ pass. load pass (address o.shape (desc_status c.args.desc)) in record {
      serial = serial_of c.load-status.result;
      knows = c.settle.ensures.own (last_loaded M o event p q c.args.desc c.load-status.result c.requires.exists own Load step
          (made_load M o (address o.shape (desc_status c.args.desc)) c.load-status.result p q step));
      no_later = own_no_later M o event p q c.args.desc c.load-status.result own step;
    }

pub settle-requires-clause-field : goal.settle-requires-clause-field
settle-requires-clause-field g c =
    let same = c.load-status.ensures.same in
    record { table = ap (λ (x : PassState). x.table) same ∙ c.requires.field.table; shape = ap (λ (x : PassState). x.shape) same ∙ c.requires.field.shape }

pub returns-clause-same : goal.returns-clause-same
returns-clause-same g c = c.settle.ensures.steps.same ∙ ap (λ (x : PassState). record x { view = c.settle.new.pass.view }) c.load-status.ensures.same
