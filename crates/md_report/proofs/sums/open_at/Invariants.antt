use Rattle.std.proofs.Common.{◌≡◌, ◌≤◌, ◌*◌, ◌^◌}
use Rattle.md_book.specs.Book.{level_of}
use Rattle.md_book.specs.declared.maps.TheConstants.{DEPTHS}
use Rattle.md_report.specs.Report.{value_at}
use Rattle.md_report.specs.Summary.{sum_to}
use Rattle.md_report.proofs.sums.open_at.Given as goal

abbrev pub invariant-loop-before : goal.invariant-loop-before
invariant-loop-before l = record {
  sum : l.left ≡ sum_to l.before (λ price. value_at l.contents DEPTHS (level_of l.side price));
  small : l.left ≤ l.before * 2 ^ 64;
}
