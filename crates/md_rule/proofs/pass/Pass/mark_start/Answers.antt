use Rattle.std.proofs.Common.{ap, subst, ◌∙◌}
use Rattle.md_machine.specs.Event.{mark_start}
use Rattle.md_rule.specs.Steps.{Stepped}
use Rattle.md_rule.proofs.Events.{is_mark_start, mark_tells}
use Rattle.md_rule.proofs.LaneEvents.{quiet_mark_start}
use Rattle.md_rule.proofs.LaneSteps.{kept_quiet}
use Rattle.md_rule.proofs.Private.{keeps_words}
use Rattle.md_rule.proofs.pass.Pass.mark_start.Goals as goal

pub mark-requires-clause-may : goal.mark-requires-clause-may
mark-requires-clause-may g c =
    let M = g.T.Theory.meaning in
    let o = c.args.field.now.origin in
    let view = c.self.inside.seat.me.0.view in
    mark_tells M o _ view (rw (ap (λ p. p.view) c.self.view_is) c.requires.may) (is_mark_start M o view)

pub invariant_of-self : goal.invariant_of-self
invariant_of-self g c =
    let M = g.T.Theory.meaning in
    let o = c.args.field.now.origin in
    let told = c.mark.ensures.told.1 in
    let same = c.mark.ensures.same in
    let shape = ap (λ p. p.shape) c.self.view_is ∙ c.requires.field.shape in (
      same.0 ∙ c.self.invariant.0,
      c.self.invariant.1,
      same.1 ∙ c.self.invariant.2,
      kept_quiet M o _ _ _ told same.0 c.self.inside.shape shape (quiet_mark_start M o _ _ told) c.self.inside.shares (λ _ _. tt) c.self.invariant.3,
      keeps_words c.self.inside.shape c.self.inside.private _ _ c.mark.ensures.private c.self.invariant.4,
    )

pub returns-clause-step : goal.returns-clause-step
returns-clause-step g c =
    let M = g.T.Theory.meaning in
    let o = c.args.field.now.origin in
    subst (λ v. Stepped M o (λ pass. mark_start pass) v c.mark.new.seat.me.0.view) (ap (λ p. p.view) c.self.view_is) c.mark.ensures.told.1
