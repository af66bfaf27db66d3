use Rattle.md_book.specs.Stands.{IsBookSized}
use Rattle.medley_bench.proofs.fill.contents_for.Given as goal

abbrev pub invariant-loop-level : goal.invariant-loop-level
invariant-loop-level l = IsBookSized l.contents

abbrev pub invariant-loop-account : goal.invariant-loop-account
invariant-loop-account l = IsBookSized l.contents
