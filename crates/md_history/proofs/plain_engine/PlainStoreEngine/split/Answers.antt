use Rattle.std.proofs.Common.{refl}
use Rattle.md_history.proofs.plain_engine.PlainStoreEngine.split.Goals as goal

pub returns-clause-unchanged : goal.returns-clause-unchanged
returns-clause-unchanged c = refl

pub returns-clause-none : goal.returns-clause-none
returns-clause-none c = refl
