use Rattle.std.proofs.Common.{refl, subst}
use Rattle.md_rule.specs.Steps.{Stepped}
use Rattle.md_rule.specs.Views.{FieldView}
use Rattle.md_machine.specs.Event.{mark_leave}
use Rattle.md_store_law.specs.Store.{store}
use Rattle.md_nbtc_law.proofs.beginning.Leaving.{begins_not}
use Rattle.md_store.proofs.Settlement.{put_down}
use Rattle.md_store_interleavings.proofs.looking.settled.Goals as goal

pub settled_lane-requires-clause-of : goal.settled_lane-requires-clause-of
settled_lane-requires-clause-of c =
    put_down c.args.store.now c.args.pass.now c.mark_leave.new.self c.requires c.mark_leave.ensures.same
    (subst (λ (f : FieldView). Stepped store f.origin (λ pass. mark_leave pass) c.args.pass.now.view c.mark_leave.new.self.view) c.field.ensures c.mark_leave.ensures.step)

pub settled_lane-requires-clause-idle : goal.settled_lane-requires-clause-idle
settled_lane-requires-clause-idle c =
    (begins_not store c.args.store.now.origin c.args.pass.now.view c.mark_leave.new.self.view
    (subst (λ (f : FieldView). Stepped store f.origin (λ pass. mark_leave pass) c.args.pass.now.view c.mark_leave.new.self.view) c.field.ensures c.mark_leave.ensures.step)
    c.args.pass.now c.mark_leave.new.self refl c.mark_leave.ensures.same).idle
