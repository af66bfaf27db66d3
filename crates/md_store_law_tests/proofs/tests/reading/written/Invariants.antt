use Rattle.std.proofs.Common.{◌≡◌, replicate, take}
use Rattle.md_store_law_tests.specs.UsedRow.{written}
use Rattle.md_store_law_tests.proofs.tests.reading.written.Given as goal

abbrev pub invariant-loop-word : goal.invariant-loop-word
invariant-loop-word l = l.words.items ≡ written (take l.word-index l.row) (replicate l.size 0)
