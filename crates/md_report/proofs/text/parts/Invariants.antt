use Rattle.std.proofs.Common.{◌≡◌, ◌≤◌, ◌+◌, ◌-◌, ◌*◌, ◌++◌, length, take, drop}
use Rattle.std.specs.Prelude.{flat_map}
use Rattle.md_report.specs.declared.text.TheConstants.{PART}
use Rattle.md_report.specs.Report.{part_text}
use Rattle.md_report_replies.specs.Rooms.{parts_in}
use Rattle.md_report.proofs.text.parts.Given as goal

abbrev pub invariant-loop-after : goal.invariant-loop-after
invariant-loop-after l = record {
  text : l.line ≡ flat_map part_text (drop (l.told - l.after) (take l.count (parts_in l.count l.room))) ++ l.initial.line;
  short : length l.line ≤ PART * l.after + length l.initial.line;
}
