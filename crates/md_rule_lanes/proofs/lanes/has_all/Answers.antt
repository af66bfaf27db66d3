use Rattle.std.proofs.Common.{◌<◌, ◌≤◌, sym, subst, ◌∙◌, ⊎_elim, arith}
use Rattle.std.specs.List.{Contains}
use Rattle.std.proofs.lemmas.Bool.{cases_lt, false≢true}
use Rattle.md_machine.proofs.lists.Rising.{in_lane, lane_in}
use Rattle.md_rule_lanes.proofs.lanes.has_all.Goals as goal

pub returns-then-not-has : goal.returns-then-not-has
returns-then-not-has c = (
  (λ h. absurd (false≢true h)),
  (λ all. absurd (false≢true (sym c.if-not-has.true ∙ c.has.ensures ∙ in_lane c.args.lanes.now c.loop-lane.lane (all c.loop-lane.lane c.loop-lane-test.true)))),
)

pub loop-lane-preserved : goal.loop-lane-preserved
loop-lane-preserved c =
    let lanes = c.args.lanes.now in
    λ lane h. ⊎_elim
    (λ (k : lane < c.loop-lane.lane). c.loop-lane.invariant lane k)
    (λ (k : c.loop-lane.lane ≤ lane). subst (Contains lanes) (omega (arith, h, k)) (lane_in lanes c.loop-lane.lane (sym c.has.ensures ∙ c.if-not-has.false)))
    (cases_lt lane c.loop-lane.lane)
