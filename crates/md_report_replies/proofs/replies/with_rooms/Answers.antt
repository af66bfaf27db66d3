use Rattle.std.proofs.Common.{◌∙◌, ap}
use Rattle.md_report_replies.specs.Rooms.{sizes_in, replies_of}
use Rattle.md_report_replies.proofs.Placed.{unset-sizes, unset-replies}
use Rattle.md_report_replies.proofs.replies.with_rooms.Goals as goal

pub invariant_of-result : goal.invariant_of-result
invariant_of-result c = rw c.of.ensures (ap sizes_in c.requires ∙ unset-sizes c.args.scripts.now, c.commands_are_named.ensures)

pub returns : goal.returns
returns c = rw c.of.ensures (ap (λ rs. record { scripts = c.args.scripts.now; replies = rs }) (ap replies_of c.requires ∙ unset-replies c.args.scripts.now))
