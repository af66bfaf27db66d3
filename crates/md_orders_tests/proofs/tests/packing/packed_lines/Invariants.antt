use Rattle.std.proofs.Common.{◌≡◌, ◌+◌, length}
use Rattle.md_report_replies.specs.Replies.{SuitTheirLines}
use Rattle.md_orders_tests.proofs.tests.packing.packed_lines.Given as goal

abbrev pub invariant-lines : goal.invariant-lines
invariant-lines l = record {
  count : l.done + length l.packed ≡ l.before;
  suit : SuitTheirLines l.scripts l.caller l.done l.packed;
}
