use Rattle.std.proofs.Common.{◌≡◌, ◌++◌}
use Rattle.md_book.specs.Book.{level_of}
use Rattle.md_book.specs.declared.maps.TheConstants.{DEPTHS}
use Rattle.md_report.specs.Report.{texts_to, level_text, value_at}
use Rattle.md_report.proofs.text.levels.Given as goal

abbrev pub invariant-loop-before : goal.invariant-loop-before
invariant-loop-before l = l.out.items ≡ l.initial.out.items ++ texts_to l.before (λ price. level_text l.side price (value_at l.contents DEPTHS (level_of l.side price)))
