use Rattle.std.proofs.Common.{◌-◌, ◌≤◌, length, take}
use Rattle.md_program_edge.specs.Streams.{IsWritten}
use Rattle.md_program_edge.proofs.output.write_all.Given as goal

abbrev pub invariant-writes : goal.invariant-writes
invariant-writes g l = record {
  inside : l.at ≤ length l.text;
  written : IsWritten g.O.Sink.takes g.O.Sink.holds g.O.Sink.faults l.fn.output l.output (take l.at l.text);
}

abbrev pub decreases-writes : goal.decreases-writes
decreases-writes g l = length l.text - l.at
