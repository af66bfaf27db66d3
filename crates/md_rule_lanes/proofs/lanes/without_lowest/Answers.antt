use Rattle.std.proofs.Common.{◌∷◌, ap, ◌∙◌, sym, get_or, w64}
use Rattle.std.specs.Int.{trailing_zeros}
use Rattle.std.proofs.lemmas.Nat.Bits.{bit_at-trailing_zeros}
use Rattle.md_rule_lanes.proofs.LaneSets.{lanes_first, cleared}
use Rattle.md_rule_lanes.specs.LaneSet.{lanes_in}
use Rattle.md_rule_lanes.proofs.lanes.without_lowest.Goals as goal

pub overflow_shl-result : goal.overflow_shl-result
overflow_shl-result c = (bit_at-trailing_zeros w64 c.args.bits c.requires c.ranges.bits.fits).0

pub returns : goal.returns
returns c =
    let first = lanes_first c.args.bits c.requires c.ranges.bits.fits in
    first ∙ ap (λ z. z ∷ lanes_in (cleared c.args.bits (trailing_zeros w64 c.args.bits))) (sym (ap (λ l. get_or l 0 0) first))
