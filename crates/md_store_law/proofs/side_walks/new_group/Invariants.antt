use Rattle.std.proofs.Common.{◌≡◌, length}
use Rattle.md_store_law.proofs.side_walks.new_group.Given as goal

abbrev pub invariant-loop-i : goal.invariant-loop-i
invariant-loop-i l = length l.walks.items ≡ l.i
