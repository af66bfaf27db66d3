use Rattle.std.proofs.Common.{arith}
use Rattle.md_report_replies.proofs.Apart.{length-shown}
use Rattle.md_report_replies.proofs.rooms.ReplyRooms.len.Goals as goal

pub returns-clause-replies : goal.returns-clause-replies
returns-clause-replies c =
    let shown = length-shown _ _ _ _ c.args.self.now c.self.invariant c.self.view_is in
    let whole = c.self.inside.sizes.ok.0 in
    omega arith
