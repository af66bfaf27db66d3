use Rattle.std.proofs.Common.{◌≡◌, ◌<◌, Some, ap, sym, subst, ◌∙◌}
use Rattle.md_machine.specs.Event.{mark_end}
use Rattle.md_rule.specs.InHand.{HoldsDesc}
use Rattle.md_rule.specs.Kept.{KeepsLanes}
use Rattle.md_rule.specs.Steps.{Stepped}
use Rattle.md_machine.specs.declared.attempt.Hand.{Hand}
use Rattle.md_machine.specs.events.Start.{IsClean}
use Rattle.md_rule.proofs.Events.{is_mark_end, mark_tells}
use Rattle.md_rule.proofs.LaneLists.{desc_fits}
use Rattle.md_rule.proofs.LaneSteps.{kept_end}
use Rattle.md_rule.proofs.Private.{keeps_words}
use Rattle.md_rule.proofs.pass.Pass.mark_end.Goals as goal

pub mark-requires-clause-may : goal.mark-requires-clause-may
mark-requires-clause-may g c =
    let M = g.T.Theory.meaning in
    let o = c.args.field.now.origin in
    let view = c.self.inside.seat.me.0.view in
    mark_tells M o _ view (rw (ap (λ p. p.view) c.self.view_is) c.requires.may) (is_mark_end M o view)

pub end_lane-requires : goal.end_lane-requires
end_lane-requires g c = desc_fits c.args.field.now.origin.shape c.args.desc c.requires.field.1

pub invariant_of-self : goal.invariant_of-self
invariant_of-self g c =
    let M = g.T.Theory.meaning in
    let o = c.args.field.now.origin in
    let told = c.mark.ensures.told.1 in
    let same = c.mark.ensures.same in
    let shape = ap (λ p. p.shape) c.self.view_is ∙ c.requires.field.0.shape in (
      same.0 ∙ c.self.invariant.0,
      c.self.invariant.1,
      same.1 ∙ c.self.invariant.2,
      subst (KeepsLanes c.self.inside.shape c.mark.new.seat.me.0.view) (sym c.end_lane.ensures.shares)
          (kept_end M o _ _ c.args.desc told same.0 c.self.inside.shape shape c.self.inside.shares
          (subst (λ n. c.args.desc < n) (sym c.end_lane.ensures.size) (desc_fits o.shape c.args.desc c.requires.field.1))
          (subst (λ p. HoldsDesc p.view c.args.desc) (sym c.self.view_is) c.requires.hand)
          (subst (λ p. (h : Hand) → p.view.hand ≡ Some h → IsClean p.view h.attempt) (sym c.self.view_is) c.requires.clean) c.self.invariant.3),
      keeps_words c.self.inside.shape c.self.inside.private _ _ c.mark.ensures.private c.self.invariant.4,
    )

pub returns-clause-step : goal.returns-clause-step
returns-clause-step g c =
    let M = g.T.Theory.meaning in
    let o = c.args.field.now.origin in
    subst (λ v. Stepped M o (λ pass. mark_end pass) v c.mark.new.seat.me.0.view) (ap (λ p. p.view) c.self.view_is) c.mark.ensures.told.1
