use Rattle.md_store_law_tests.proofs.Bounds.{may_have_few}
use Rattle.md_store_law_tests.proofs.tests.reading.a_used_field_is_compacted.Goals as goal

pub compact-requires-clause-base : goal.compact-requires-clause-base
compact-requires-clause-base g c = may_have_few c.in_ok-shape.shape c.in_ok-words.words.items c.in_ok-shape.ensures.numbers c.in_ok-words.ensures
