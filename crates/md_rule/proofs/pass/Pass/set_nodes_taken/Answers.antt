use Rattle.std.proofs.Common.{◌<◌, ap, sym, subst, ◌∙◌}
use Rattle.std.specs.List.{Contains}
use Rattle.md_rule.specs.Kept.{KeepsLanes}
use Rattle.md_rule_lanes.specs.Shares.{MayReturn, share_at}
use Rattle.md_rule.proofs.LaneLists.{lane_fits}
use Rattle.md_rule.proofs.LaneShares.{nodes_set}
use Rattle.md_rule.proofs.pass.Pass.set_nodes_taken.Goals as goal

pub set_nodes-requires : goal.set_nodes-requires
set_nodes-requires g c =
    lane_fits c.self.inside.shape c.self.inside.lanes c.args.lane c.self.invariant.1
    (subst (λ l. Contains l c.args.lane) (ap (λ p. p.view.lanes) (sym c.self.view_is) ∙ c.self.invariant.0) c.requires.lane)

pub invariant_of-self : goal.invariant_of-self
invariant_of-self g c =
    let inside = c.self.inside in
    let view = inside.seat.me.0.view in
    let fits = lane_fits c.self.inside.shape c.self.inside.lanes c.args.lane c.self.invariant.1
    (subst (λ l. Contains l c.args.lane) (ap (λ p. p.view.lanes) (sym c.self.view_is) ∙ c.self.invariant.0) c.requires.lane) in (
      c.self.invariant.0,
      c.self.invariant.1,
      c.self.invariant.2,
      subst (KeepsLanes inside.shape view) (sym c.set_nodes.ensures.shares)
          (nodes_set inside.shape view inside.shares c.self.invariant.3 c.args.lane c.args.taken (subst (λ n. c.args.lane < n) (sym c.set_nodes.ensures.size) fits)
          (subst (λ p. MayReturn p.shape p.view c.args.lane c.args.taken (share_at p.shares c.args.lane).nodes_taken) (sym c.self.view_is) c.requires.free)),
      c.self.invariant.4,
    )
