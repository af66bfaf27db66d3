use Rattle.std.proofs.Common.{◌≡◌}
use Rattle.md_feed_lines.proofs.feeder.Feeder.run.Given as goal

abbrev pub invariant-loop : goal.invariant-loop
invariant-loop g l = l.self.plan ≡ l.initial.self.plan
