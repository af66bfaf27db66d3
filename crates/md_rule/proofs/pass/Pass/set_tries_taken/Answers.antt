use Rattle.std.proofs.Common.{◌<◌, ◌≤◌, ap, sym, subst, ◌∙◌}
use Rattle.std.specs.List.{Contains}
use Rattle.md_rule.specs.Kept.{KeepsLanes}
use Rattle.md_rule_lanes.specs.Shares.{share_at}
use Rattle.md_rule.proofs.LaneLists.{lane_fits}
use Rattle.md_rule.proofs.LaneShares.{tries_set}
use Rattle.md_rule.proofs.pass.Pass.set_tries_taken.Goals as goal

pub set_tries-requires : goal.set_tries-requires
set_tries-requires g c =
    lane_fits c.self.inside.shape c.self.inside.lanes c.args.lane c.self.invariant.1
    (subst (λ l. Contains l c.args.lane) (ap (λ p. p.view.lanes) (sym c.self.view_is) ∙ c.self.invariant.0) c.requires.lane)

pub invariant_of-self : goal.invariant_of-self
invariant_of-self g c =
    let inside = c.self.inside in
    let view = inside.seat.me.0.view in
    let fits = lane_fits c.self.inside.shape c.self.inside.lanes c.args.lane c.self.invariant.1
    (subst (λ l. Contains l c.args.lane) (ap (λ p. p.view.lanes) (sym c.self.view_is) ∙ c.self.invariant.0) c.requires.lane) in (
      c.self.invariant.0,
      c.self.invariant.1,
      c.self.invariant.2,
      subst (KeepsLanes inside.shape view) (sym c.set_tries.ensures.shares)
          (tries_set inside.shape view inside.shares c.self.invariant.3 c.args.lane c.args.taken (subst (λ n. c.args.lane < n) (sym c.set_tries.ensures.size) fits)
          (subst (λ p. (share_at p.shares c.args.lane).tries_taken ≤ c.args.taken) (sym c.self.view_is) c.requires.rises)
          (subst (λ p. c.args.taken ≤ p.shape.tries) (sym c.self.view_is) c.requires.fits)),
      c.self.invariant.4,
    )
