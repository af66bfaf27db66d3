use Rattle.std.proofs.Common.{refl}
use Rattle.md_nbtc_law.specs.State.{shape_in}
use Rattle.md_nbtc.specs.State.{state}
use Rattle.md_store_bodies.proofs.Runs.{is_head_of}
use Rattle.md_store_interleavings.proofs.operations.head_of.Goals as goal

pub returns : goal.returns
returns c =
    let s = shape_in (state c.args.txn.now) in
    is_head_of s s c.shape.result.now c.args.map c.args.key c.map_head.result refl c.shape.ensures c.requires c.map_head.ensures.place
