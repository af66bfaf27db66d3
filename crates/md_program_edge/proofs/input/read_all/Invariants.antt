use Rattle.std.proofs.Common.{◌-◌, vec_len}
use Rattle.md_program_edge.specs.Streams.{IsReadInPart}
use Rattle.md_program_edge.proofs.input.read_all.Given as goal

abbrev pub invariant-reads : goal.invariant-reads
invariant-reads g l = IsReadInPart g.I.Source.gives g.I.Source.left g.I.Source.faults l.fn.input l.input l.bytes.items

abbrev pub decreases-reads : goal.decreases-reads
decreases-reads g l = 67108865 - vec_len l.bytes
