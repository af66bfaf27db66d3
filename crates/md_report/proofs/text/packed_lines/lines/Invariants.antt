use Rattle.std.proofs.Common.{◌≡◌, ◌+◌, ◌++◌, take}
use Rattle.std.specs.Prelude.{sum_by}
use Rattle.md_report_replies.specs.Packed.{size_of}
use Rattle.md_report.specs.Report.{lines_text}
use Rattle.md_report.proofs.text.packed_lines.lines.Given as goal

abbrev pub invariant-loop-done : goal.invariant-loop-done
invariant-loop-done l = record {
  start : l.start ≡ sum_by size_of (take (l.before + l.done) l.heads);
  text : l.out.items ≡ l.initial.out.items ++ lines_text l.replies l.caller l.before l.done;
}
