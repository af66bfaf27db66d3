-- The lanes of a pass that holds each lane of its store.
use Rattle.std.proofs.Common.{◌≡◌, ◌+◌, ℕ, zero, suc, subst, sym, arith}
use Rattle.std.specs.List.{Contains, range_with_len}
use Rattle.std.proofs.lemmas.List.Elements.{All-contains}
use Rattle.md_history.specs.Engine.{IsRising}
use Rattle.md_history.specs.LaneLaws.{rising-same}
use Rattle.md_machine.specs.clauses.passes.Alone.{HoldsAll}
use Rattle.md_machine.proofs.lists.Rising.{in_range, range_in}
use Rattle.md_machine.specs.declared.pass.PassView.{PassView}
use Rattle.md_words.specs.declared.shape.Shape.{Shape}
use Rattle.md_rule.specs.Views.{FieldView, PassState}
use Rattle.md_store_bodies.specs.Laws.{of_is}
use Rattle.md_store_bodies.specs.Store.{IsPassOf, all_lanes, front_in}

-- the numbers of a range rise
range_rises : (first count : ℕ) → IsRising (range_with_len first count)
range_rises first zero = tt
range_rises first (suc zero) = tt
range_rises first (suc (suc count)) = (omega arith, range_rises (first + 1) (suc count))

-- the lanes of a pass that holds each of them are all lanes
pub held_all : (f : FieldView) (p : PassState) → IsPassOf f p → HoldsAll f.origin.shape p.view → (front_in p).lanes ≡ all_lanes f.origin.shape
held_all f p of all =
    let from = of_is f p of in
    let lanes = all_lanes f.origin.shape in
    rising-same (front_in p).lanes lanes from.rising (range_rises 0 f.origin.shape.lanes)
    (λ lane c. All-contains (Contains lanes) (front_in p).lanes lane from.within c)
    (λ lane c. let less = in_range 0 f.origin.shape.lanes lane c in all lane (omega (arith, less)))

-- and a pass that holds all lanes holds each of them
pub holds_all : (shape : Shape) (p : PassView) → p.lanes ≡ all_lanes shape → HoldsAll shape p
holds_all shape p all lane less = subst (λ l. Contains l lane) (sym all) (range_in 0 shape.lanes lane (omega arith) (omega (arith, less)))
