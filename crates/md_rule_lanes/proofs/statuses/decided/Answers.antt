use Rattle.std.proofs.Common.{arith, ap}
use Rattle.md_words.specs.Status.{serial_of}
use Rattle.md_rule_lanes.proofs.statuses.decided.Goals as goal

pub word-requires : goal.word-requires
unfolding serial_of
word-requires c = let is = ap (λ w. w.serial) c.of-reads.ensures.parts in let fits = c.ranges.from.fits in omega (arith, is, fits)
