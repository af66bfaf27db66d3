use Rattle.md_nbtc.specs.State.{state}
use Rattle.md_store_interleavings.proofs.Ended.{left_ready_of, stopped_of}
use Rattle.md_store_interleavings.proofs.ending.leave_ready.Goals as goal

pub returns-in-Ok : goal.returns-in-Ok
returns-in-Ok c = left_ready_of c.args.store.now (state c.args.txn) c.args.why c.requires _ c.in-Ok.ensures.left

pub returns-in-Err : goal.returns-in-Err
returns-in-Err c = stopped_of c.args.store.now (state c.args.txn) c.args.why c.requires _ c.in-Err.ensures.refused.stopped
