use Rattle.std.proofs.Common.{◌<◌, ◌∙◌, length, ap, arith}
use Rattle.std.proofs.lemmas.List.{length-set, length-take-le}
use Rattle.md_nbtc_sets.proofs.Marking.{marked_more}
use Rattle.md_nbtc_sets.proofs.sets.Slots.push.Goals as goal

pub invariant_of-self : goal.invariant_of-self
invariant_of-self c =
    let l = c.self.invariant in
    let items = c.self.inside.items in
    let count = c.self.inside.count in
    let below : count < length items = omega (arith, c.requires, ap length c.self.view_is, length-take-le count items (omega (arith, l.0, l.1)), l.1) in (
      omega (arith, below, l.1),
      length-set items count c.args.slot ∙ l.1,
      marked_more (λ x. x.write.word) items count c.args.slot _ _ below c.mark.ensures.marked c.mark.ensures.lower l.2,
    )
