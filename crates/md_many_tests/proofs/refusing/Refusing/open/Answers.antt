use Rattle.md_many_tests.proofs.Lanes.{wider}
use Rattle.md_many_tests.proofs.refusing.Refusing.open.Goals as goal

pub returns-clause-front : goal.returns-clause-front
returns-clause-front c = wider _ _ c.open-store.ensures.of.front
