use Rattle.std.proofs.Common.{◌≡◌, ap, refl, sym, subst, ◌∙◌}
use Rattle.md_words.specs.Layout.{address}
use Rattle.md_words.specs.Place.{desc_status}
use Rattle.md_machine.specs.Event.{abort}
use Rattle.md_rule.specs.Kept.{IsReached}
use Rattle.md_rule.specs.Steps.{Exchanged, May, MayTell, SteppedFrom}
use Rattle.md_rule.proofs.Events.{exchange_tells, is_abort, traded}
use Rattle.md_rule.proofs.LaneEvents.{quiet_abort}
use Rattle.md_rule.proofs.LaneSteps.{kept_quiet, spares_reached, stepped_of}
use Rattle.md_rule.specs.Private.{HasPrivateWords}
use Rattle.md_rule.proofs.pass.Pass.abort.Goals as goal

pub exchange_word-requires-clause-may : goal.exchange_word-requires-clause-may
exchange_word-requires-clause-may g c =
    let M = g.T.Theory.meaning in
    let o = c.args.field.now.origin in
    let view = c.self.inside.seat.me.0.view in
    let at : c.status-word.result ≡ address o.shape (desc_status c.args.desc) = c.status-word.ensures.place ∙ ap (λ s. address s (desc_status c.args.desc)) c.shape.ensures in
    let to = c.aborted-aborted.result in
    let may : May M o (λ pass. abort pass c.args.desc c.args.from) view = rw (ap (λ p. p.view) c.self.view_is) c.requires.may in
    subst (λ about. MayTell M o view c.status-word.result (traded c.args.from to) (SteppedFrom M o (λ pass. abort pass about.0 about.1) (address o.shape (desc_status about.0)))) (sym c.of-about.ensures)
    (subst (λ word. MayTell M o view word (traded c.args.from to) (SteppedFrom M o (λ pass. abort pass c.args.desc c.args.from) (address o.shape (desc_status c.args.desc)))) (sym at)
    (exchange_tells M o _ view (address o.shape (desc_status c.args.desc)) c.args.from _ c.args.from to may (is_abort M o view c.args.desc c.args.from) refl c.aborted-aborted.ensures))

pub invariant_of-self : goal.invariant_of-self
invariant_of-self g c =
    let M = g.T.Theory.meaning in
    let o = c.args.field.now.origin in
    let told = stepped_of M o _ (address o.shape (desc_status c.args.desc)) c.args.from c.exchange_word.result _ _
    (subst (λ about. Exchanged M o (λ pass. abort pass about.0 about.1) (address o.shape (desc_status about.0)) c.args.from c.exchange_word.result c.self.inside.seat.me.0.view c.exchange_word.new.seat.me.0.view) c.of-about.ensures c.exchange_word.ensures.told) in
    let same = c.exchange_word.ensures.same in
    let shape = ap (λ p. p.shape) c.self.view_is ∙ c.requires.field.0.shape in (
      same.0 ∙ c.self.invariant.0,
      c.self.invariant.1,
      same.1 ∙ c.self.invariant.2,
      kept_quiet M o _ _ _ told same.0 c.self.inside.shape shape (quiet_abort M o _ _ c.args.desc c.args.from told) c.self.inside.shares
          (λ lane _ is. spares_reached (record { table = c.self.inside.seat.table_id; shape = c.self.inside.shape; view = c.self.inside.seat.me.0.view; shares = c.self.inside.shares })
          _ (shape ∙ sym told.admitted.shape) c.args.desc lane is (subst (λ p. IsReached p c.args.desc) (sym c.self.view_is) c.requires.reached)) c.self.invariant.3,
      subst (λ s. HasPrivateWords s c.exchange_word.new.private c.exchange_word.new.seat.me.0) (sym shape) c.exchange_word.ensures.private,
    )

pub returns-clause-step : goal.returns-clause-step
returns-clause-step g c =
    let M = g.T.Theory.meaning in
    let o = c.args.field.now.origin in
    subst (λ v. Exchanged M o (λ pass. abort pass c.args.desc c.args.from) (address o.shape (desc_status c.args.desc)) c.args.from c.exchange_word.result v c.exchange_word.new.seat.me.0.view) (ap (λ p. p.view) c.self.view_is)
    (subst (λ about. Exchanged M o (λ pass. abort pass about.0 about.1) (address o.shape (desc_status about.0)) c.args.from c.exchange_word.result c.self.inside.seat.me.0.view c.exchange_word.new.seat.me.0.view) c.of-about.ensures c.exchange_word.ensures.told)
