use Rattle.md_store_law_tests.proofs.EmptyOpens.{small_opens}
use Rattle.md_store_law_tests.proofs.Scheduled.{finds_1, finds_2, inserts_18, inserts_2, misses_1, misses_65, removes_1, unlinks_1}
use Rattle.md_store_law_tests.proofs.tests.theory.schedules_with_certificates.Goals as goal

pub returns-clause-opens : goal.returns-clause-opens
returns-clause-opens c = small_opens

pub returns-clause-stopped : goal.returns-clause-stopped
returns-clause-stopped c = (c.worked_rows.ensures inserts_2 inserts_18 finds_2 misses_1).0

pub returns-clause-helped : goal.returns-clause-helped
returns-clause-helped c = (c.worked_rows.ensures inserts_2 inserts_18 finds_2 misses_1).1

pub returns-clause-moved : goal.returns-clause-moved
returns-clause-moved c = (c.worked_rows.ensures inserts_2 inserts_18 finds_2 misses_1).2

pub returns-clause-unlinked : goal.returns-clause-unlinked
returns-clause-unlinked c = c.unlinking_row.ensures finds_1 removes_1 misses_65 unlinks_1
