use Rattle.std.proofs.Common.{take}
use Rattle.std.specs.Prelude.{All}
use Rattle.md_feed_lines.specs.Feeding.{IsFed}
use Rattle.md_feed_lines.proofs.feeder.all_done.Given as goal

abbrev pub invariant-feeds : goal.invariant-feeds
invariant-feeds l = All IsFed (take l.feed-index l.feeds)
