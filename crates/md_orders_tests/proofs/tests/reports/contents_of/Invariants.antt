use Rattle.std.proofs.Common.{◌≤◌, length}
use Rattle.md_book.specs.declared.maps.TheConstants.{MAPS}
use Rattle.md_orders_tests.proofs.tests.reports.contents_of.Given as goal

abbrev pub invariant-values : goal.invariant-values
invariant-values g l = MAPS ≤ length l.contents.maps
