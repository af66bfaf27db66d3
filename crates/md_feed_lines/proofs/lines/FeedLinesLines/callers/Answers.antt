use Rattle.std.proofs.Common.{sym}
use Rattle.md_feed_lines.proofs.Scripts.{made-are}
use Rattle.md_feed_lines.proofs.lines.FeedLinesLines.callers.Goals as goal

pub returns : goal.returns
returns g c =
    let plan = c.args.self.now.plan in
    sym (made-are plan.number plan.callers plan.lines c.args.self.now.range.some_caller).callers_are
