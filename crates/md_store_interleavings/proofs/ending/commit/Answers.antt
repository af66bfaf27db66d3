use Rattle.md_nbtc.specs.State.{state}
use Rattle.md_store_interleavings.proofs.Ended.{lost_of}
use Rattle.md_store_interleavings.proofs.ending.commit.Goals as goal

pub returns-in-Err : goal.returns-in-Err
returns-in-Err c = lost_of c.args.store.now (state c.args.txn) c.args.why c.requires _ c.in-Err.shown c.in-Err.ensures.lost
