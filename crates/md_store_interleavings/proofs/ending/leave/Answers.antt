use Rattle.md_nbtc.specs.State.{state}
use Rattle.md_store_interleavings.proofs.Ended.{left_of}
use Rattle.md_store_interleavings.proofs.ending.leave.Goals as goal

pub returns : goal.returns
returns c = left_of c.args.store.now (state c.args.txn) c.args.why c.requires _ c.leave.ensures
