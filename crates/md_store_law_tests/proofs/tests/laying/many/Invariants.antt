use Rattle.std.proofs.Common.{◌≡◌, length}
use Rattle.md_store_law_tests.proofs.tests.laying.many.Given as goal

abbrev pub invariant-loop-i : goal.invariant-loop-i
invariant-loop-i g l = (length l.contents.maps ≡ 2) × (length l.contents.queues ≡ 3)

abbrev pub invariant-loop-i-2 : goal.invariant-loop-i-2
invariant-loop-i-2 g l = length l.contents.queues ≡ 3
