use Rattle.std.proofs.Common.{◌≢◌, length, refl, ap, sym, subst, ◌∙◌, arith}
use Rattle.md_machine.specs.events.SplitJoin.{given_lanes, given_part, kept_lanes, kept_part}
use Rattle.md_machine.proofs.lists.Rising.{in_drop, in_take}
use Rattle.md_rule.specs.Kept.{KeepsLanes}
use Rattle.md_rule.proofs.LaneLists.{given_are_lanes, kept_are_lanes, two_lanes}
use Rattle.md_rule.proofs.LaneMoves.{given_half, kept_half}
use Rattle.md_rule.proofs.Moves.{may_split, splits_into}
use Rattle.md_words.specs.declared.shape.Shape.{Shape}
use Rattle.md_rule.proofs.Private.{keeps_words}
use Rattle.md_rule.proofs.pass.Pass.split.Goals as goal

pub look-requires-clause-tells : goal.look-requires-clause-tells
look-requires-clause-tells g c =
    let some = c.are_several.ensures.0 c.if-not-are_several.false in
    let same = ap length c.self.invariant.0 in
    splits_into g.T.Theory.meaning c.args.field.now.origin c.self.inside.seat.id c.self.inside.seat.me.0 (omega (arith, some, same))

pub split_seat-seat-requires-clause-may : goal.split_seat-seat-requires-clause-may
split_seat-seat-requires-clause-may g c =
    let some = c.are_several.ensures.0 c.if-not-are_several.false in
    let same = ap (λ me. length me.0.view.lanes) c.look.ensures.same ∙ ap length c.self.invariant.0 in
    let shape = ap (λ p. p.shape) c.self.view_is ∙ c.requires.shape in
    let more = subst (λ (s : Shape). s.lanes ≢ 1) shape (two_lanes c.self.inside.shape c.self.inside.lanes c.self.invariant.1 some) in
    may_split g.T.Theory.meaning c.args.field.now.origin c.look.new.seat.id c.look.new.seat.me.0 more (omega (arith, some, same))

pub invariant_of-self : goal.invariant_of-self
invariant_of-self g c =
    let some = c.are_several.ensures.0 c.if-not-are_several.false in
    let same = c.look.ensures.same in
    let M = g.T.Theory.meaning in
    let o = c.args.field.now.origin in
    let shape = ap (λ p. p.shape) c.self.view_is ∙ c.requires.shape in (
      ap (λ v. v.lanes) c.split_seat-seat.ensures.kept.0 ∙ ap (λ me. kept_lanes me.0.view.lanes) same ∙ ap kept_lanes c.self.invariant.0 ∙ sym c.split-lanes.ensures.kept,
      rw c.split-lanes.ensures.kept (kept_are_lanes c.self.inside.shape c.self.inside.lanes c.self.invariant.1 some),
      c.split_seat-seat.ensures.kept.1 ∙ ap (λ me. me.1) same ∙ c.self.invariant.2,
      subst (λ v. KeepsLanes c.self.inside.shape v c.self.inside.shares) (sym (c.split_seat-seat.ensures.kept.0 ∙ ap (λ me. kept_part o.shape me.0.view) same))
          (kept_half M o c.self.inside.shape shape _ _ _ c.look.ensures.told c.self.inside.shares c.self.invariant.3 refl (λ lane. in_take _ c.self.inside.seat.me.0.view.lanes lane)),
      keeps_words c.self.inside.shape c.self.inside.private _ _ (c.split_seat-seat.ensures.private.0 ∙ ap (λ me. me.0.private) same) c.self.invariant.4,
    )

pub part-requires-clause-lanes : goal.part-requires-clause-lanes
part-requires-clause-lanes g c =
    let some = c.are_several.ensures.0 c.if-not-are_several.false in (
      ap (λ v. v.lanes) c.split_seat-seat.ensures.given.0 ∙ ap (λ me. given_lanes me.0.view.lanes) c.look.ensures.same ∙ ap given_lanes c.self.invariant.0 ∙ sym c.split-lanes.ensures.given,
      rw c.split-lanes.ensures.given (given_are_lanes c.self.inside.shape c.self.inside.lanes c.self.invariant.1 some),
      c.split_seat-seat.ensures.given.1,
    )

pub part-requires-clause-kept : goal.part-requires-clause-kept
part-requires-clause-kept g c =
    let o = c.args.field.now.origin in
    let shape = ap (λ p. p.shape) c.self.view_is ∙ c.requires.shape in
    subst (λ v. KeepsLanes c.self.inside.shape v c.self.inside.shares) (sym (c.split_seat-seat.ensures.given.0 ∙ ap (λ me. given_part o.shape me.0.view) c.look.ensures.same))
    (given_half g.T.Theory.meaning o c.self.inside.shape shape _ _ _ c.look.ensures.told c.self.inside.shares c.self.invariant.3 refl (λ lane. in_drop _ c.self.inside.seat.me.0.view.lanes lane))

pub part-requires-clause-shared : goal.part-requires-clause-shared
part-requires-clause-shared g c =
    let some = c.are_several.ensures.0 c.if-not-are_several.false in
    record {
      same = c.split_seat-seat.ensures.private.1;
      one = tt;
      more = two_lanes c.self.inside.shape c.self.inside.lanes c.self.invariant.1 some;
    }
