use Rattle.std.proofs.Common.{subst}
use Rattle.md_feed_lines.specs.Fed.{AreFirstLines}
use Rattle.md_feed_lines.proofs.Relaying.{taken-made}
use Rattle.md_feed_lines.proofs.hand.Hand.look_for.Goals as goal

pub returns-then-is_wanted : goal.returns-then-is_wanted
returns-then-is_wanted g c =
    let taken = c.take.ensures.line c.in-Line.line c.in-Line.is in
    c.is_wanted.ensures c.if-is_wanted.true (taken-made _ c.in-Line.line (subst AreFirstLines taken.0 taken.1))
