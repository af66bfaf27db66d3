use Rattle.std.proofs.Common.{◌<◌, length}
use Rattle.md_store_tests.proofs.tests.interleavings.pairs.Given as goal

abbrev pub invariant-loop-key : goal.invariant-loop-key
invariant-loop-key g l = 0 < length l.contents.maps
