use Rattle.std.proofs.Common.{ap, subst, ◌∙◌}
use Rattle.md_machine.specs.Event.{load}
use Rattle.md_rule.specs.Steps.{SteppedFrom}
use Rattle.md_rule.proofs.Events.{event_tells, is_load, may_load}
use Rattle.md_rule.proofs.LaneEvents.{quiet_load}
use Rattle.md_rule.proofs.LaneSteps.{kept_quiet}
use Rattle.md_rule.proofs.Private.{keeps_words}
use Rattle.md_rule.proofs.pass.Pass.load.Goals as goal

pub load_word-requires-clause-may : goal.load_word-requires-clause-may
load_word-requires-clause-may g c =
    let M = g.T.Theory.meaning in
    let o = c.args.field.now.origin in
    let view = c.self.inside.seat.me.0.view in
    event_tells M o _ view c.args.word (λ found. found) (may_load M o view c.args.word c.requires.1) (is_load M o view c.args.word)

pub invariant_of-self : goal.invariant_of-self
invariant_of-self g c =
    let M = g.T.Theory.meaning in
    let o = c.args.field.now.origin in
    let told = c.load_word.ensures.told.0 in
    let same = c.load_word.ensures.same in
    let shape = ap (λ p. p.shape) c.self.view_is ∙ c.requires.0.shape in (
      same.0 ∙ c.self.invariant.0,
      c.self.invariant.1,
      same.1 ∙ c.self.invariant.2,
      kept_quiet M o _ _ _ told same.0 c.self.inside.shape shape (quiet_load M o _ _ c.args.word told) c.self.inside.shares (λ _ _. tt) c.self.invariant.3,
      keeps_words c.self.inside.shape c.self.inside.private _ _ c.load_word.ensures.private c.self.invariant.4,
    )

pub returns-clause-step : goal.returns-clause-step
returns-clause-step g c =
    subst (λ v. SteppedFrom g.T.Theory.meaning c.args.field.now.origin (λ pass. load pass c.args.word) c.args.word c.load_word.result v c.load_word.new.seat.me.0.view)
    (ap (λ p. p.view) c.self.view_is) c.load_word.ensures.told
