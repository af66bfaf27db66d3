use Rattle.std.proofs.Common.{◌≡◌, length}
use Rattle.medley_bench.proofs.keys.half_full.Given as goal

abbrev pub invariant-keys : goal.invariant-keys
invariant-keys l = length l.contents.maps ≡ 1
