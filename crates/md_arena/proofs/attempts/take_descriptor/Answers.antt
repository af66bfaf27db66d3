use Rattle.std.proofs.Common.{ap, arith}
use Rattle.md_rule.proofs.LaneLists.{lane_exists}
use Rattle.md_arena.proofs.attempts.take_descriptor.Goals as goal

pub desc_of-desc-requires : goal.desc_of-desc-requires
desc_of-desc-requires g c =
    let p = c.args.pass.now in
    let fits = lane_exists p.shape p.view.lanes c.in-Some.lane c.shape.ensures.lanes c.in-Some.ensures.some.held in
    let of = ap (λ s. s.lanes) c.shape.ensures.shape in omega (arith, fits, of)
