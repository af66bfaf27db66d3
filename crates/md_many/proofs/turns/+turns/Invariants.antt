use Rattle.std.proofs.Common.{length}
use Rattle.md_many.proofs.turns.+turns.Given as goal

abbrev pub decreases-join+arg2 : goal.decreases-join+arg2
decreases-join+arg2 g l = length l.low.now

abbrev pub decreases-join+arg3 : goal.decreases-join+arg3
decreases-join+arg3 g l = length l.high.now

abbrev pub decreases-play_turns : goal.decreases-play_turns
decreases-play_turns g l = length l.done.now
