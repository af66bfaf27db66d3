use Rattle.std.proofs.Common.{◌∙◌, ap}
use Rattle.md_report_replies.specs.Replies.{listed}
use Rattle.md_report_replies.proofs.Listed.{listed-none}
use Rattle.md_report_replies.proofs.replies_by_caller.RepliesByCaller.empty.Goals as goal

pub returns : goal.returns
returns c = ap listed c.in_ok-no_lists.ensures ∙ listed-none c.args.callers
