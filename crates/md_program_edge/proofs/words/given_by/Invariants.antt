use Rattle.std.proofs.Common.{◌≡◌, drop}
use Rattle.md_program_edge.specs.Words.{texts}
use Rattle.md_program_edge.proofs.Settings.{no_values, at_rest, read_from}
use Rattle.md_program_edge.proofs.words.given_by.Given as goal

abbrev pub invariant-loop-word : goal.invariant-loop-word
invariant-loop-word l = read_from (at_rest no_values) (texts l.words) ≡ read_from l.reading (texts (drop l.word-index l.words))
