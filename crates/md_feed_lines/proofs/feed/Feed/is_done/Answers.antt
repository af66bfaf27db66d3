use Rattle.md_feed_lines.proofs.Relaying.{none-of}
use Rattle.md_feed_lines.proofs.feed.Feed.is_done.Goals as goal

pub returns : goal.returns
returns c = λ done. c.args.self.now.none_left (none-of c.args.self.now.next c.is_none.result c.is_none.ensures done)
