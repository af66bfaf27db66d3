use Rattle.std.proofs.Common.{length, ap, arith}
use Rattle.md_report_replies.proofs.Unpacked.{length-unpacked_all}
use Rattle.md_report_replies.proofs.packed.PackedReplies.len.Goals as goal

pub returns : goal.returns
returns c =
    let shown = ap length c.self.view_is in
    let count = length-unpacked_all c.self.inside.heads.items c.self.inside.numbers.items in
    let whole = c.self.inside.heads.ok.0 in
    omega arith
