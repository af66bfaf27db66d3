use Rattle.std.proofs.Common.{ap, sym, ◌∙◌, nat_eq}
use Rattle.std.proofs.lemmas.Nat.Bits.{shr_and_one}
use Rattle.md_history.specs.Front.{is_lane_of}
use Rattle.md_rule_lanes.proofs.LaneSets.{lane_is_in}
use Rattle.md_rule_lanes.proofs.lanes.Lanes.has.Goals as goal

pub returns : goal.returns
returns c =
    let bits = c.self.inside.bits in
    ap (λ n. nat_eq n 1) (shr_and_one bits c.args.lane) ∙ sym (lane_is_in bits c.args.lane c.requires) ∙ ap (λ l. is_lane_of l c.args.lane) c.self.view_is
