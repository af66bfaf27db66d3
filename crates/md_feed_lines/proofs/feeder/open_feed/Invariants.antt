use Rattle.std.proofs.Common.{◌≡◌, ◌+◌, map}
use Rattle.std.specs.Prelude.{vec_len}
use Rattle.std.specs.List.{range_with_len}
use Rattle.md_feed_lines.specs.Feeding.{feed_of}
use Rattle.md_feed_lines.proofs.feeder.open_feed.Given as goal

abbrev pub invariant-loop-before : goal.invariant-loop-before
invariant-loop-before g l =
    (vec_len l.hands ≡ l.before)
    × (map feed_of l.feeds.items ≡ map (λ b. (l.fn.plan, b + 1)) (range_with_len 0 l.before))
