use Rattle.std.proofs.Common.{◌<◌, ◌≤◌, ap, sym, subst, ◌∙◌}
use Rattle.md_machine.specs.Event.{mark_begin}
use Rattle.std.specs.List.{Contains}
use Rattle.md_rule.specs.Kept.{KeepsLanes}
use Rattle.md_rule_lanes.specs.Shares.{share_at}
use Rattle.md_rule.specs.Steps.{May, MayTell, Stepped}
use Rattle.md_rule.proofs.Events.{is_mark_begin, mark_tells}
use Rattle.md_rule.proofs.LaneLists.{lane_fits}
use Rattle.md_rule.proofs.LaneSteps.{kept_begin}
use Rattle.md_rule.proofs.Private.{keeps_words}
use Rattle.md_rule.proofs.pass.Pass.mark_begin.Goals as goal

pub mark-requires-clause-may : goal.mark-requires-clause-may
mark-requires-clause-may g c =
    let M = g.T.Theory.meaning in
    let o = c.args.field.now.origin in
    let view = c.self.inside.seat.me.0.view in
    let may : May M o (λ pass. mark_begin pass c.args.desc c.args.tag) view = rw (ap (λ p. p.view) c.self.view_is) c.requires.may in
    subst (λ about. MayTell M o view 0 (λ found. found) (λ _. Stepped M o (λ pass. mark_begin pass about.0 about.1))) (sym c.of.ensures)
    (mark_tells M o _ view may (is_mark_begin M o view c.args.desc c.args.tag))

pub begin_lane-requires : goal.begin_lane-requires
begin_lane-requires g c =
    lane_fits c.self.inside.shape c.self.inside.lanes c.args.desc c.self.invariant.1
    (subst (λ l. Contains l c.args.desc) (ap (λ p. p.view.lanes) (sym c.self.view_is) ∙ c.self.invariant.0) c.requires.own)

pub invariant_of-self : goal.invariant_of-self
invariant_of-self g c =
    let M = g.T.Theory.meaning in
    let o = c.args.field.now.origin in
    let told = subst (λ about. Stepped M o (λ pass. mark_begin pass about.0 about.1) c.self.inside.seat.me.0.view c.mark.new.seat.me.0.view) c.of.ensures c.mark.ensures.told.1 in
    let same = c.mark.ensures.same in
    let shape = ap (λ p. p.shape) c.self.view_is ∙ c.requires.field.shape in (
      same.0 ∙ c.self.invariant.0,
      c.self.invariant.1,
      same.1 ∙ c.self.invariant.2,
      subst (KeepsLanes c.self.inside.shape c.mark.new.seat.me.0.view) (sym c.begin_lane.ensures.shares)
          (kept_begin M o _ _ c.args.desc c.args.tag told same.0 c.self.inside.shape shape c.self.inside.shares
          (subst (λ n. c.args.desc < n) (sym c.begin_lane.ensures.size) (lane_fits c.self.inside.shape c.self.inside.lanes c.args.desc c.self.invariant.1
          (subst (λ l. Contains l c.args.desc) (ap (λ p. p.view.lanes) (sym c.self.view_is) ∙ c.self.invariant.0) c.requires.own)))
          (subst (λ p. 1 ≤ (share_at p.shares c.args.desc).tries_taken) (sym c.self.view_is) c.requires.taken) c.self.invariant.3),
      keeps_words c.self.inside.shape c.self.inside.private _ _ c.mark.ensures.private c.self.invariant.4,
    )

pub returns-clause-step : goal.returns-clause-step
returns-clause-step g c =
    let M = g.T.Theory.meaning in
    let o = c.args.field.now.origin in
    subst (λ v. Stepped M o (λ pass. mark_begin pass c.args.desc c.args.tag) v c.mark.new.seat.me.0.view) (ap (λ p. p.view) c.self.view_is)
    (subst (λ about. Stepped M o (λ pass. mark_begin pass about.0 about.1) c.self.inside.seat.me.0.view c.mark.new.seat.me.0.view) c.of.ensures c.mark.ensures.told.1)
