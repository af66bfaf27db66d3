use Rattle.std.proofs.Common.{take}
use Rattle.md_report.specs.Report.{whole_text}
use Rattle.md_program_edge.specs.Streams.{IsWritten}
use Rattle.md_program_edge.proofs.output.write_parts.Given as goal

abbrev pub invariant-parts : goal.invariant-parts
invariant-parts g l = IsWritten g.O.Sink.takes g.O.Sink.holds g.O.Sink.faults l.fn.output l.output (whole_text (take l.part-index l.parts))
