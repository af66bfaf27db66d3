use Rattle.std.proofs.Common.{◌∙◌, sym, ap, subst, ◌<◌, length, take, refl}
use Rattle.std.proofs.Math.Seq.{map-set_same}
use Rattle.std.proofs.lemmas.List.{length-set}
use Rattle.md_nbtc_law.specs.declared.slots.TheConstants.{NO_SLOT}
use Rattle.md_nbtc_law.specs.Sets.{renewed_at}
use Rattle.md_nbtc_law.proofs.Searching.{slot_renewed}
use Rattle.md_nbtc_sets.specs.Marks.{AreMarked}
use Rattle.md_nbtc_sets.proofs.sets.Slots.set_new.Goals as goal

pub returns : goal.returns
returns c =
    slot_renewed c.self.inside.items _ c.args.i c.self.inside.count c.args.to (subst (λ l. c.args.i < length l) (sym c.self.view_is) c.requires)
    ∙ ap (renewed_at c.args.i c.args.to) c.self.view_is

pub invariant_of-self : goal.invariant_of-self
invariant_of-self c =
    let l = c.self.invariant in (
      l.0,
      length-set c.self.inside.items c.args.i _ ∙ l.1,
      subst (λ ws. AreMarked c.self.inside.marks (take c.self.inside.count ws)) (sym (map-set_same (λ x. x.write.word) c.self.inside.items c.args.i _ NO_SLOT refl)) l.2,
    )
