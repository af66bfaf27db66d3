use Rattle.std.proofs.Common.{◌≡◌, take, map, string_bytes}
use Rattle.md_program_edge.specs.Words.{texts}
use Rattle.md_program.proofs.program.slices.Given as goal

abbrev pub invariant-loop-string : goal.invariant-loop-string
invariant-loop-string l = texts l.slices.items ≡ map string_bytes (take l.string-index l.strings)
