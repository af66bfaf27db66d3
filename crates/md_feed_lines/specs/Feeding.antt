-- What a feeder has sent.
use Rattle.std.specs.Prelude.{◌≤◌, ℕ, ◌+◌, List, map}
use Rattle.std.specs.List.{range_with_len}
use Rattle.md_feed_lines.specs.declared.feed.Feed.{Feed}
use Rattle.md_feed_lines.specs.declared.plan.Plan.{Plan}
use Rattle.md_feed_lines.specs.Made.{before_line}

-- whose lines are fed
abbrev pub feed_of : Feed → Plan × ℕ
feed_of feed = (feed.plan, feed.caller)

-- the callers of a plan, in order
abbrev pub callers_of : Plan → List (Plan × ℕ)
callers_of plan = map (λ before. (plan, before + 1)) (range_with_len 0 plan.callers)

-- a caller was sent all its lines: its next one would be made after all of the plan's
abbrev pub IsFed : Feed → Type 0
IsFed feed = feed.plan.lines ≤ before_line feed.plan.callers feed.caller feed.sent
