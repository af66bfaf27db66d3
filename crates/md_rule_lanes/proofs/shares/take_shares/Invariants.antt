use Rattle.md_rule_lanes.proofs.Sharing.{TakenBelow}
use Rattle.md_rule_lanes.proofs.shares.take_shares.Given as goal

abbrev pub invariant-loop-lane : goal.invariant-loop-lane
invariant-loop-lane l = TakenBelow l.lanes l.fn.mine l.others l.mine l.lane
