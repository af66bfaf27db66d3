use Rattle.std.proofs.Common.{refl}
use Rattle.md_store_law.specs.Store.{store}
use Rattle.md_nbtc_law.proofs.beginning.Leaving.{begins_not}
use Rattle.md_store.proofs.Settlement.{may, put_down, settles}
use Rattle.md_store.proofs.settling.settle.Goals as goal

pub settle_lanes-requires-clause-of : goal.settle_lanes-requires-clause-of
settle_lanes-requires-clause-of c =
    put_down c.args.field.now c.args.pass.now c.mark_leave.new.self c.requires.of c.mark_leave.ensures.same c.mark_leave.ensures.step

pub settle_lanes-requires-clause-idle : goal.settle_lanes-requires-clause-idle
settle_lanes-requires-clause-idle c =
    (begins_not store c.args.field.now.origin c.args.pass.now.view c.mark_leave.new.self.view c.mark_leave.ensures.step c.args.pass.now c.mark_leave.new.self refl c.mark_leave.ensures.same).idle

pub returns-clause-settles : goal.returns-clause-settles
returns-clause-settles c =
    settles c.args.field.now c.args.pass.now c.mark_leave.new.self c.settle_lanes.new.pass c.requires.of c.requires.all c.mark_leave.ensures.same c.mark_leave.ensures.step
    c.settle_lanes.ensures.same c.settle_lanes.ensures.settles c.settle_lanes.ensures.of

pub returns-clause-may : goal.returns-clause-may
returns-clause-may c =
    may c.args.field.now c.args.pass.now c.mark_leave.new.self c.settle_lanes.new.pass c.requires.of c.requires.all c.mark_leave.ensures.same c.mark_leave.ensures.step
    c.settle_lanes.ensures.same c.settle_lanes.ensures.settles c.settle_lanes.ensures.of
