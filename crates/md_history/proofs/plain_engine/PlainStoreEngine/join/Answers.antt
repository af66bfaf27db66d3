use Rattle.std.proofs.Common.{refl, arith}
use Rattle.md_history.proofs.plain_engine.PlainStoreEngine.join.Goals as goal

-- both passes would hold the one lane
pub returns-clause-joined : goal.returns-clause-joined
returns-clause-joined c = λ apart. absurd (apart 0 (0, omega arith, refl) (0, omega arith, refl))

pub returns-clause-begun : goal.returns-clause-begun
returns-clause-begun c = λ apart. absurd (apart 0 (0, omega arith, refl) (0, omega arith, refl))

pub returns-clause-unchanged : goal.returns-clause-unchanged
returns-clause-unchanged c = refl
