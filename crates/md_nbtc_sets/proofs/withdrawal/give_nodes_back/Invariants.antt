use Rattle.std.proofs.Common.{drop}
use Rattle.md_nbtc_law.proofs.withdrawals.NodesBack.{GivesSome}
use Rattle.md_nbtc_sets.proofs.withdrawal.give_nodes_back.Given as goal

abbrev pub invariant-loop-i : goal.invariant-loop-i
invariant-loop-i g l = GivesSome l.began.value l.fn.pass (drop l.i l.lots) l.pass
