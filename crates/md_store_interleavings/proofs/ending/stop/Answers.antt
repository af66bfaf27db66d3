use Rattle.md_nbtc.specs.State.{state}
use Rattle.md_store_interleavings.proofs.Ended.{stopped_of}
use Rattle.md_store_interleavings.proofs.ending.stop.Goals as goal

pub returns : goal.returns
returns c = stopped_of c.args.store.now (state c.args.txn) c.args.why c.requires _ c.stop.ensures
