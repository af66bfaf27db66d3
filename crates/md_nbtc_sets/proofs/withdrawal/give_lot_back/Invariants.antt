use Rattle.std.proofs.Common.{◌≡◌, ◌≤◌}
use Rattle.md_rule_lanes.specs.Shares.{share_at}
use Rattle.md_arena.specs.Taking.{with_nodes}
use Rattle.md_nbtc_sets.proofs.withdrawal.give_lot_back.Given as goal

abbrev pub invariant-loop-place : goal.invariant-loop-place
invariant-loop-place g l = record {
  is : l.pass ≡ with_nodes l.fn.pass l.lot.lane l.place;
  least : l.lot.first ≤ l.place;
  most : l.place ≤ (share_at l.fn.pass.shares l.lot.lane).nodes_taken;
}
