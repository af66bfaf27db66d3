use Rattle.std.proofs.Common.{◌≡◌}
use Rattle.md_feed_lines.proofs.feed.Feed.steps.Given as goal

abbrev pub invariant-loop-sent : goal.invariant-loop-sent
invariant-loop-sent g l = (l.self.plan ≡ l.initial.self.plan) × (l.self.caller ≡ l.initial.self.caller)
