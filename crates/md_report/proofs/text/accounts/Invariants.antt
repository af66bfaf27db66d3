use Rattle.std.proofs.Common.{◌≡◌, ◌++◌}
use Rattle.md_book.specs.declared.maps.TheConstants.{BOUGHT, SOLD}
use Rattle.md_report.specs.Report.{texts_to, account_text, value_at}
use Rattle.md_report.proofs.text.accounts.Given as goal

abbrev pub invariant-loop-before : goal.invariant-loop-before
invariant-loop-before l = l.out.items ≡ l.initial.out.items ++ texts_to l.before (λ account. account_text account (value_at l.contents BOUGHT account) (value_at l.contents SOLD account))
