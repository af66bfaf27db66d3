use Rattle.std.proofs.Common.{◌≡◌, length}
use Rattle.md_store_law_tests.proofs.tests.contents_of.Given as goal

abbrev pub invariant-loop-key : goal.invariant-loop-key
invariant-loop-key l = (length l.contents.maps ≡ 1) × (length l.contents.queues ≡ 1)

abbrev pub invariant-loop-value : goal.invariant-loop-value
invariant-loop-value l = length l.contents.queues ≡ 1
