use Rattle.std.proofs.Common.{◌≡◌, length, refl, ap, ◌∙◌, slice_index, subst, arith}
use Rattle.md_machine.specs.declared.pass.PassView.{PassView}
use Rattle.md_rule.specs.Views.{PassState}
use Rattle.md_store.specs.Settling.{SettlesDescriptor, SettlesFirst}
use Rattle.md_store.proofs.SettledLanes.{settles_first, settles_next}
use Rattle.md_store.proofs.settling.settle_lanes.Goals as goal

pub loop-place-init : goal.loop-place-init
loop-place-init c = record { of = c.requires.of; same = refl; so_far = settles_first c.args.field.now.origin.shape c.args.pass.now.view }

pub loop-place-preserved : goal.loop-place-preserved
loop-place-preserved c =
    let f = c.args.field.now in
    let p = c.args.pass.now.view in
    let q = c.loop-place.pass.view in
    let r = c.settle_lane.new.pass.view in
    let was = c.loop-place.invariant in
    let lane = c.lane-lane.ensures.lane ∙ ap (λ (x : PassView). slice_index x.lanes c.loop-place.place) was.so_far.goes.1 in record {
      of = c.settle_lane.ensures.of;
      same = c.settle_lane.ensures.same ∙ ap (λ (x : PassState). record x { view = r }) was.same;
      so_far = settles_next f c.loop-place.place p q r c.requires.idle was.so_far (subst (λ l. SettlesDescriptor f.origin.shape l q r) lane c.settle_lane.ensures.settles) c.settle_lane.ensures.of.stands;
    }

pub returns-clause-settles : goal.returns-clause-settles
returns-clause-settles c =
    let end : c.loop-place.place ≡ length c.args.pass.now.view.lanes = omega arith in
    subst (λ n. SettlesFirst c.args.field.now.origin.shape n c.args.pass.now.view c.loop-place.pass.view) end c.loop-place.invariant.so_far
