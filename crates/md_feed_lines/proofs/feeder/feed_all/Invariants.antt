use Rattle.std.proofs.Common.{◌≡◌, map}
use Rattle.std.specs.Prelude.{vec_len}
use Rattle.md_feed_lines.specs.Feeding.{feed_of}
use Rattle.md_feed_lines.proofs.feeder.feed_all.Given as goal

abbrev pub invariant-loop-at : goal.invariant-loop-at
invariant-loop-at g l =
    (map feed_of l.feeds.items ≡ map feed_of l.initial.feeds.items) × (vec_len l.feeds ≡ l.at-end)
