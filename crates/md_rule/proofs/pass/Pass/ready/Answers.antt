use Rattle.std.proofs.Common.{◌≡◌, ap, sym, subst, ◌∙◌}
use Rattle.md_words.specs.Layout.{address}
use Rattle.md_words.specs.Place.{desc_status}
use Rattle.md_rule.specs.Entering.{MayBecomeReady}
use Rattle.md_rule.specs.InHand.{HoldsUnready}
use Rattle.md_rule.specs.Kept.{StoredNoneLeft}
use Rattle.md_machine.specs.Event.{ready}
use Rattle.md_rule.specs.Steps.{Exchanged, MayTell}
use Rattle.md_rule.proofs.Entering.{Readies, Tells, readies_by, readies_step, ready_tells}
use Rattle.md_rule.proofs.Events.{traded}
use Rattle.md_rule.proofs.LaneSteps.{kept_ready, stepped_of}
use Rattle.md_rule.specs.Private.{HasPrivateWords}
use Rattle.md_rule.proofs.pass.Pass.ready.Goals as goal

pub exchange_word-requires-clause-may : goal.exchange_word-requires-clause-may
exchange_word-requires-clause-may g c =
    let M = g.T.Theory.meaning in
    let o = c.args.field.now.origin in
    let By = g.K.Certifying.by in
    let view = c.self.inside.seat.me.0.view in
    let desc = c.args.desc in
    let from = c.args.from in
    let reads = c.args.reads in
    let at : c.status-word.result ≡ address o.shape (desc_status desc) = c.status-word.ensures.place ∙ ap (λ s. address s (desc_status desc)) c.shape.ensures in
    let may : MayBecomeReady M o By reads view = rw (ap (λ p. p.view) c.self.view_is) c.requires.may in
    let hand : HoldsUnready view desc from = rw (ap (λ p. p.view) c.self.view_is) c.requires.hand in
    subst (λ about. MayTell M o view c.status-word.result (traded from c.ready.result) (Readies M o By about.0 from about.1)) (sym c.of-about.ensures)
    (subst (λ word. MayTell M o view word (traded from c.ready.result) (Readies M o By desc from reads)) (sym at)
    (ready_tells M o By view desc from c.ready.result reads hand c.ready.ensures may))

pub invariant_of-self : goal.invariant_of-self
invariant_of-self g c =
    let M = g.T.Theory.meaning in
    let o = c.args.field.now.origin in
    let exchanged = readies_step M o g.K.Certifying.by c.args.desc c.args.from c.args.reads _ _ c.exchange_word.result (subst (λ about. Tells M o g.K.Certifying.by about.0 c.args.from about.1 c.self.inside.seat.me.0.view c.exchange_word.new.seat.me.0.view c.exchange_word.result) c.of-about.ensures c.exchange_word.ensures.told) in
    let told = stepped_of M o _ (address o.shape (desc_status c.args.desc)) c.args.from c.exchange_word.result _ _ exchanged in
    let same = c.exchange_word.ensures.same in
    let shape = ap (λ p. p.shape) c.self.view_is ∙ c.requires.field.0.shape in (
      same.0 ∙ c.self.invariant.0,
      c.self.invariant.1,
      same.1 ∙ c.self.invariant.2,
      kept_ready M o _ _ c.args.reads told same.0 c.self.inside.shape shape c.self.inside.shares
          (λ lane node held left. subst StoredNoneLeft (sym c.self.view_is) c.requires.taken node (lane, held, left.0, left.1)) c.self.invariant.3,
      subst (λ s. HasPrivateWords s c.exchange_word.new.private c.exchange_word.new.seat.me.0) (sym shape) c.exchange_word.ensures.private,
    )

pub returns-clause-step : goal.returns-clause-step
returns-clause-step g c =
    let M = g.T.Theory.meaning in
    let o = c.args.field.now.origin in
    subst (λ v. Exchanged M o (λ pass. ready pass c.args.reads) (address o.shape (desc_status c.args.desc)) c.args.from c.exchange_word.result v c.exchange_word.new.seat.me.0.view) (ap (λ p. p.view) c.self.view_is)
    (readies_step M o g.K.Certifying.by c.args.desc c.args.from c.args.reads _ _ c.exchange_word.result (subst (λ about. Tells M o g.K.Certifying.by about.0 c.args.from about.1 c.self.inside.seat.me.0.view c.exchange_word.new.seat.me.0.view c.exchange_word.result) c.of-about.ensures c.exchange_word.ensures.told))

pub returns-clause-by : goal.returns-clause-by
returns-clause-by g c =
    let M = g.T.Theory.meaning in
    let o = c.args.field.now.origin in
    readies_by M o g.K.Certifying.by c.args.desc c.args.from c.args.reads _ _ c.exchange_word.result (subst (λ about. Tells M o g.K.Certifying.by about.0 c.args.from about.1 c.self.inside.seat.me.0.view c.exchange_word.new.seat.me.0.view c.exchange_word.result) c.of-about.ensures c.exchange_word.ensures.told)
