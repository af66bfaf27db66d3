use Rattle.std.proofs.Common.{◌≡◌, ◌+◌, ◌++◌, length, [], ◌∷◌, sym, ap, ◌∙◌, subst, arith}
use Rattle.md_store_law.specs.Lists.{AreFirst}
use Rattle.md_store_law.specs.declared.side_walks.QueueWalk.{QueueWalk}
use Rattle.md_store_law.proofs.Joined.{first_more}
use Rattle.md_store_law.proofs.gathering.append_walks.Goals as goal

pub loop-walk-init : goal.loop-walk-init
loop-walk-init c = λ lists first before each.
    let none : first ≡ first + 0 = omega arith in subst (AreFirst c.args.values.now.joined.items c.args.values.now.bounds.items lists) none before

pub loop-walk-preserved : goal.loop-walk-preserved
loop-walk-preserved c = λ lists first before each.
    let was = c.loop-walk.values in
    let index = c.loop-walk.walk-index in
    let walk = c.walk-item.result in
    let read = ap (λ (w : QueueWalk). w.values.items) c.walk-item.is ∙ each index walk c.loop-walk-test.true in
    let next : (first + index) + 1 ≡ first + (index + 1) = omega arith in
    subst (AreFirst c.end.new.self.joined.items c.end.new.self.bounds.items lists) next
    (first_more lists was.joined.items _ was.bounds.items _ (first + index) (c.loop-walk.invariant lists first before each)
    (c.end.ensures.joined ∙ c.in_ok-extend_from_slice.ensures.items ∙ ap (λ vs. was.joined.items ++ vs) (c.deref.ensures.value ∙ read))
    (c.in_ok-end.ensures.bounds ∙ ap (λ vs. was.bounds.items ++ length vs ∷ []) (sym c.end.ensures.joined)))

pub returns : goal.returns
returns c = λ lists first before each.
    let all : first + c.loop-walk.walk-index ≡ first + length c.args.walks.now = omega arith in
    subst (AreFirst c.loop-walk.values.joined.items c.loop-walk.values.bounds.items lists) all (c.loop-walk.invariant lists first before each)
