use Rattle.std.proofs.Common.{ap, sym, subst, ◌∙◌}
use Rattle.md_machine.specs.Event.{store}
use Rattle.md_rule.specs.Steps.{May, MayTell, Stepped}
use Rattle.md_rule.proofs.Events.{is_store, store_tells}
use Rattle.md_rule.proofs.LaneEvents.{quiet_store}
use Rattle.md_rule.proofs.LaneSteps.{kept_quiet}
use Rattle.md_rule.specs.Private.{HasPrivateWords}
use Rattle.md_rule.proofs.pass.Pass.store.Goals as goal

pub store_word-requires-clause-may : goal.store_word-requires-clause-may
store_word-requires-clause-may g c =
    let M = g.T.Theory.meaning in
    let o = c.args.field.now.origin in
    let view = c.self.inside.seat.me.0.view in
    let may : May M o (λ pass. store pass c.args.word c.args.value) view = rw (ap (λ p. p.view) c.self.view_is) c.requires.may in
    subst (λ about. MayTell M o view c.args.word (λ _. c.args.value) (λ _. Stepped M o (λ pass. store pass about.0 about.1))) (sym c.of-about.ensures)
    (store_tells M o _ view c.args.word c.args.value may (is_store M o view c.args.word c.args.value))

pub invariant_of-self : goal.invariant_of-self
invariant_of-self g c =
    let M = g.T.Theory.meaning in
    let o = c.args.field.now.origin in
    let told = subst (λ about. Stepped M o (λ pass. store pass about.0 about.1) c.self.inside.seat.me.0.view c.store_word.new.seat.me.0.view) c.of-about.ensures c.store_word.ensures.told in
    let same = c.store_word.ensures.same in
    let shape = ap (λ p. p.shape) c.self.view_is ∙ c.requires.field.0.shape in (
      same.0 ∙ c.self.invariant.0,
      c.self.invariant.1,
      same.1 ∙ c.self.invariant.2,
      kept_quiet M o _ _ _ told same.0 c.self.inside.shape shape (quiet_store M o _ _ c.args.word c.args.value told) c.self.inside.shares (λ _ _. tt) c.self.invariant.3,
      subst (λ s. HasPrivateWords s c.store_word.new.private c.store_word.new.seat.me.0) (sym shape) c.store_word.ensures.private,
    )

pub returns-clause-step : goal.returns-clause-step
returns-clause-step g c =
    let event = Stepped g.T.Theory.meaning c.args.field.now.origin in
    subst (λ v. event (λ pass. store pass c.args.word c.args.value) v c.store_word.new.seat.me.0.view) (ap (λ p. p.view) c.self.view_is)
    (subst (λ about. event (λ pass. store pass about.0 about.1) c.self.inside.seat.me.0.view c.store_word.new.seat.me.0.view) c.of-about.ensures c.store_word.ensures.told)
