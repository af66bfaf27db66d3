use Rattle.md_nbtc.specs.State.{state}
use Rattle.md_store_interleavings.proofs.Acted.{ended, has_begun}
use Rattle.md_store_interleavings.proofs.acting.act.Goals as goal

pub made-requires-clause-begun : goal.made-requires-clause-begun
made-requires-clause-begun c =
    has_begun c.args.store.now (state c.args.txn.now) (state c.start_op.new.self) c.args.stop.now c.requires c.in_default.is c.start_op.ensures.on c.start_op.ensures.begun

pub returns-in-Ok-clause-acting : goal.returns-in-Ok-clause-acting
returns-in-Ok-clause-acting c =
    ended c.args.store.now (state c.args.txn.now) (state c.start_op.new.self) c.args.stop.now c.requires c.in_default.is c.start_op.ensures.on c.start_op.ensures.begun
    (state c.made.new.txn) (state c.end_op.new.self) c.args.op c.in-Ok.reply c.in-Ok.ensures.makes c.end_op.ensures.on c.end_op.ensures.ended
