use Rattle.std.proofs.Common.{length, ap, arith}
use Rattle.md_report_replies.proofs.Unpacked.{length-unpacked_all}
use Rattle.md_report_replies.proofs.packed.PackedReplies.set_in.Goals as goal

pub set_each-requires-clause-few : goal.set_each-requires-clause-few
set_each-requires-clause-few c =
    let shown = ap length c.self.view_is in
    let count = length-unpacked_all c.self.inside.heads.items c.self.inside.numbers.items in
    let whole = ap length c.deref.ensures.value in
    omega arith
