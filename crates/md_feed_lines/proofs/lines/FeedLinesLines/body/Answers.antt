use Rattle.std.proofs.Common.{arith}
use Rattle.md_feed_lines.proofs.Scripts.{caller-there}
use Rattle.md_feed_lines.proofs.lines.FeedLinesLines.body.Goals as goal

pub wanted-wanted-requires-clause-caller : goal.wanted-wanted-requires-clause-caller
wanted-wanted-requires-clause-caller g c =
    let lines = c.args.self.now in
    let plan = lines.plan in
    caller-there plan.number plan.callers plan.lines c.args.caller c.args.line lines.range.some_caller (omega arith) (omega (arith, c.lines_of.ensures))

pub index-hand-requires : goal.index-hand-requires
index-hand-requires g c =
    let lines = c.args.self.now in
    let plan = lines.plan in
    let there = caller-there plan.number plan.callers plan.lines c.args.caller c.args.line lines.range.some_caller (omega arith) (omega (arith, c.lines_of.ensures)) in
    omega (arith, there.0, there.1, lines.hand_of_each)
