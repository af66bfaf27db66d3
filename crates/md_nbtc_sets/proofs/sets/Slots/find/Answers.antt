use Rattle.std.proofs.Common.{◌∙◌, sym, ap, arith, eq-eqb}
use Rattle.std.proofs.Math.Nat.{min-le_left, min-le_right}
use Rattle.std.proofs.lemmas.Bool.{ne_eqb}
use Rattle.md_nbtc_law.specs.Sets.{place_of}
use Rattle.md_nbtc_law.proofs.Searching.{slot_first, slot_more}
use Rattle.md_nbtc_sets.proofs.Marking.{none_written_before}
use Rattle.md_nbtc_sets.proofs.sets.Slots.find.Goals as goal

pub returns-then-self-i : goal.returns-then-self-i
returns-then-self-i c =
    let l = c.self.invariant in
    let b = c.loop-i-test.true in
    sym (ap (λ l. place_of l c.args.word 0) (sym c.self.view_is) ∙ slot_first c.self.inside.items _ c.loop-i.i c.self.inside.count c.args.word b (omega (arith, b, l.0, l.1)) c.loop-i.invariant (eq-eqb _ _ c.if-self-i.true))

pub loop-i-preserved : goal.loop-i-preserved
loop-i-preserved c = slot_more c.self.inside.items _ c.loop-i.i c.args.word c.loop-i.invariant (ne_eqb _ _ c.if-self-i.false)

pub loop-i-init : goal.loop-i-init
loop-i-init c =
    let is = c.min-i.ensures in
    none_written_before c.self.inside.marks c.self.inside.items c.self.inside.count c.min-i.result c.args.word c.self.invariant.2 (omega (arith, is, min-le_right c.first.result c.self.inside.count))
    (omega (arith, is, min-le_left c.first.result c.self.inside.count, c.first.ensures))
