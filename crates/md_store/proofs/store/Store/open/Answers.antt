use Rattle.std.proofs.Common.{arith}
use Rattle.md_store.proofs.store.Store.open.Goals as goal

pub opened-requires-clause-room : goal.opened-requires-clause-room
opened-requires-clause-room c = omega arith

pub returns-in-Ok-clause-no_room : goal.returns-in-Ok-clause-no_room
returns-in-Ok-clause-no_room c more = absurd (omega (arith, more))

pub returns-in-Err-clause-no_room : goal.returns-in-Err-clause-no_room
returns-in-Err-clause-no_room c more = absurd (omega (arith, more))
