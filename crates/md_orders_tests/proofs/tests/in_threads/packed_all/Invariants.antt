use Rattle.std.proofs.Common.{◌≡◌, length}
use Rattle.md_orders_tests.proofs.tests.in_threads.packed_all.Given as goal

abbrev pub invariant-callers : goal.invariant-callers
invariant-callers g l = length l.replies ≡ length l.scripts
