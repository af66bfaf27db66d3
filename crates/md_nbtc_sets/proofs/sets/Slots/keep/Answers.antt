use Rattle.std.proofs.Common.{◌<◌, length, map, take, refl, sym, ap, subst, ◌∙◌, arith}
use Rattle.std.proofs.Math.Nat.{min-le_left, min-le_right}
use Rattle.std.proofs.Math.Seq.{map-set_same}
use Rattle.std.proofs.lemmas.List.{length-map}
use Rattle.md_nbtc_law.specs.declared.slots.TheConstants.{NO_SLOT}
use Rattle.md_nbtc_law.proofs.keeping.Keeping.{keep_else, keep_then}
use Rattle.md_nbtc_sets.specs.declared.sets.Slots.TheInside.{Inside}
use Rattle.md_nbtc_sets.specs.Marks.{AreMarked}
use Rattle.md_nbtc_sets.proofs.Marking.{none_kept_before}
use Rattle.md_nbtc_sets.proofs.sets.Slots.keep.Goals.{then-slot-word, else-slot-word}
use Rattle.md_nbtc_sets.proofs.sets.Slots.keep.Goals as goal

pub loop-i-init : goal.loop-i-init
loop-i-init c =
    let is = c.min-i.ensures in (
      sym (none_kept_before c.self.inside.marks c.self.inside.items c.self.inside.count c.min-i.result c.args.word c.args.cleanup NO_SLOT c.self.invariant.2
          (omega (arith, is, min-le_right c.first.result c.self.inside.count))
          (omega (arith, is, min-le_left c.first.result c.self.inside.count, c.first.ensures))),
      refl,
      refl,
      refl,
    )

pub loop-i-preserved : goal.loop-i-preserved
loop-i-preserved c =
    let l = c.self.invariant in
    let b = c.loop-i-test.true in
    let is = c.loop-i.invariant in
    let below : c.loop-i.i < length c.self.inside.items = omega (arith, b, l.0, l.1) in elim c.if-slot-word.branch [
      | then-slot-word w ↦ (
        ap (λ (x : Inside). x.items) w.self-inside-is
            ∙ keep_then c.args.word c.args.cleanup NO_SLOT c.loop-i.self-inside.items c.self.inside.items c.loop-i.i is.0 below w.if-slot-word.true,
        ap (λ (x : Inside). x.count) w.self-inside-is ∙ is.1,
        ap (λ (x : Inside). map (λ s. s.write.word) x.items) w.self-inside-is
            ∙ map-set_same (λ s. s.write.word) c.loop-i.self-inside.items c.loop-i.i _ NO_SLOT refl ∙ is.2,
        ap (λ (x : Inside). x.marks) w.self-inside-is ∙ is.3,
      )
      | else-slot-word w ↦ (
        ap (λ (x : Inside). x.items) w.self-inside-is
            ∙ keep_else c.args.word c.args.cleanup NO_SLOT c.loop-i.self-inside.items c.self.inside.items c.loop-i.i is.0 below _ refl w.if-slot-word.false,
        ap (λ (x : Inside). x.count) w.self-inside-is ∙ is.1,
        ap (λ (x : Inside). map (λ s. s.write.word) x.items) w.self-inside-is ∙ is.2,
        ap (λ (x : Inside). x.marks) w.self-inside-is ∙ is.3,
      )
    ]

pub invariant_of-self : goal.invariant_of-self
invariant_of-self c =
    let l = c.self.invariant in
    let is = c.loop-i.invariant in
    let now = c.loop-i.self-inside in (
      omega (arith, l.0, is.1),
      sym (length-map now.items (λ s. s.write.word)) ∙ ap length is.2 ∙ length-map c.self.inside.items (λ s. s.write.word) ∙ l.1,
      subst (λ marks. AreMarked marks (take now.count (map (λ s. s.write.word) now.items))) (sym is.3)
          (subst (λ n. AreMarked c.self.inside.marks (take n (map (λ s. s.write.word) now.items))) (sym is.1)
          (subst (λ words. AreMarked c.self.inside.marks (take c.self.inside.count words)) (sym is.2) l.2)),
    )
