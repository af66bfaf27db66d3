use Rattle.std.proofs.Common.{ap, sym, subst, ◌∙◌}
use Rattle.md_words.specs.Content.{word_of}
use Rattle.md_machine.specs.Event.{exchange}
use Rattle.md_rule.specs.Steps.{Exchanged, May, MayTell, SteppedFrom}
use Rattle.md_rule.proofs.Events.{exchange_tells, is_exchange, traded}
use Rattle.md_rule.proofs.LaneEvents.{quiet_exchange}
use Rattle.md_rule.proofs.LaneSteps.{kept_quiet, stepped_of}
use Rattle.md_rule.specs.Private.{HasPrivateWords}
use Rattle.md_rule.proofs.pass.Pass.exchange.Goals as goal

pub exchange_word-requires-clause-may : goal.exchange_word-requires-clause-may
exchange_word-requires-clause-may g c =
    let M = g.T.Theory.meaning in
    let o = c.args.field.now.origin in
    let view = c.self.inside.seat.me.0.view in
    let word = c.args.word in
    let may : May M o (λ pass. exchange pass word (word_of c.args.from) c.args.to) view = rw (ap (λ p. p.view) c.self.view_is) c.requires.may in
    subst (λ about. MayTell M o view word (traded c.word.result c.exchanged-exchanged.result) (SteppedFrom M o (λ pass. exchange pass word (word_of about.0) about.1) word)) (sym c.of-about.ensures)
    (exchange_tells M o _ view word (word_of c.args.from) _ c.word.result c.exchanged-exchanged.result may (is_exchange M o view word (word_of c.args.from) c.args.to) c.word.ensures.whole c.exchanged-exchanged.ensures)

pub invariant_of-self : goal.invariant_of-self
invariant_of-self g c =
    let M = g.T.Theory.meaning in
    let o = c.args.field.now.origin in
    let told = stepped_of M o _ c.args.word c.word.result c.exchange_word.result _ _
    (subst (λ about. Exchanged M o (λ pass. exchange pass c.args.word (word_of about.0) about.1) c.args.word c.word.result c.exchange_word.result c.self.inside.seat.me.0.view c.exchange_word.new.seat.me.0.view) c.of-about.ensures c.exchange_word.ensures.told) in
    let same = c.exchange_word.ensures.same in
    let shape = ap (λ p. p.shape) c.self.view_is ∙ c.requires.field.0.shape in (
      same.0 ∙ c.self.invariant.0,
      c.self.invariant.1,
      same.1 ∙ c.self.invariant.2,
      kept_quiet M o _ _ _ told same.0 c.self.inside.shape shape (quiet_exchange M o _ _ c.args.word (word_of c.args.from) c.args.to told) c.self.inside.shares (λ _ _. tt) c.self.invariant.3,
      subst (λ s. HasPrivateWords s c.exchange_word.new.private c.exchange_word.new.seat.me.0) (sym shape) c.exchange_word.ensures.private,
    )

pub returns-clause-step : goal.returns-clause-step
returns-clause-step g c =
    let M = g.T.Theory.meaning in
    let o = c.args.field.now.origin in
    let told = subst (λ about. Exchanged M o (λ pass. exchange pass c.args.word (word_of about.0) about.1) c.args.word c.word.result c.exchange_word.result c.self.inside.seat.me.0.view c.exchange_word.new.seat.me.0.view) c.of-about.ensures c.exchange_word.ensures.told in
    subst (λ v. Exchanged M o (λ pass. exchange pass c.args.word (word_of c.args.from) c.args.to) c.args.word (word_of c.args.from) c.exchange_word.result v c.exchange_word.new.seat.me.0.view) (ap (λ p. p.view) c.self.view_is)
    (subst (λ n. Exchanged M o (λ pass. exchange pass c.args.word (word_of c.args.from) c.args.to) c.args.word n c.exchange_word.result c.self.inside.seat.me.0.view c.exchange_word.new.seat.me.0.view) c.word.ensures.whole told)
