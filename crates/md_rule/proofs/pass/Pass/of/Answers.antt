use Rattle.std.proofs.Common.{replicate, ap, sym, subst, ◌∙◌}
use Rattle.md_rule.specs.Kept.{KeepsLanes}
use Rattle.md_rule_lanes.specs.declared.shares.TheConstants.{UNUSED}
use Rattle.md_rule.proofs.LaneLists.{all_are_lanes}
use Rattle.md_rule.proofs.LaneShares.{first_keeps}
use Rattle.md_rule.proofs.pass.Pass.of.Goals as goal

pub invariant_of-result : goal.invariant_of-result
invariant_of-result g c = (
  ap (λ v. v.lanes) c.requires.view.0 ∙ sym c.all.ensures,
  rw c.all.ensures (all_are_lanes c.args.shape),
  c.requires.view.1,
  subst (λ v. KeepsLanes c.args.shape v (replicate 64 UNUSED)) (sym c.requires.view.0) (first_keeps c.args.shape),
  c.requires.private,
)
