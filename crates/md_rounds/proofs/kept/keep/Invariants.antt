use Rattle.std.proofs.Common.{◌≡◌, ◌+◌, take}
use Rattle.md_report_replies.specs.Replies.{with_replies}
use Rattle.md_rounds.proofs.kept.keep.Given as goal

abbrev pub invariant-replies : goal.invariant-replies
invariant-replies l = record {
  line : l.line ≡ l.done + l.reply-index;
  scripts : l.replies.scripts ≡ l.fn.replies.scripts;
  kept : l.replies.replies ≡ with_replies l.fn.replies.replies l.caller l.done (take l.reply-index l.batch);
}
