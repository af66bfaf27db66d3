use Rattle.std.proofs.Common.{◌<◌, length, refl, ap, sym, subst, ◌∙◌}
use Rattle.md_machine.specs.declared.pass.PassView.{PassView}
use Rattle.md_machine.specs.events.SplitJoin.{joined_lanes, joined_part}
use Rattle.md_rule.specs.Rule.{JoinedInto}
use Rattle.md_rule.specs.Kept.{KeepsLanes}
use Rattle.md_rule_lanes.specs.Shares.{joined_shares}
use Rattle.md_machine.proofs.events.Tell.{joined_of}
use Rattle.md_rule.proofs.LaneMoves.{kept_both}
use Rattle.md_rule.proofs.LaneLists.{joined_are_lanes}
use Rattle.md_rule.proofs.Moves.{may_join}
use Rattle.md_rule.proofs.Private.{keeps_words}
use Rattle.md_rule.proofs.pass.Pass.join.Goals as goal

pub join_seat-requires-clause-may : goal.join_seat-requires-clause-may
join_seat-requires-clause-may g c =
    let parts = c.into_parts-seat.ensures in
    let seat = c.into_parts-seat.result.0 in
    let mine : 0 < length c.self.inside.seat.me.0.view.lanes = rw c.self.invariant.0 c.self.invariant.1.live in
    let others : 0 < length seat.me.0.view.lanes = rw (ap (λ v. v.lanes) parts.seat.1, ← parts.lanes.0) parts.lanes.1.live in
    may_join g.T.Theory.meaning c.args.field.now.origin c.self.inside.seat.id seat.id c.self.inside.seat.me.0 seat.me.0 mine others

pub invariant_of-self : goal.invariant_of-self
invariant_of-self g c =
    let parts = c.into_parts-seat.ensures in
    let seat = c.into_parts-seat.result.0 in
    let lanes = c.self.inside.lanes in
    let o = c.args.field.now.origin in
    let mine = c.self.inside.seat.me.0.view in
    let others = seat.me.0.view in
    let shape = ap (λ p. p.shape) c.self.view_is ∙ c.requires.mine.shape in (
      ap (λ me. me.0.view.lanes) (c.look.ensures.same ∙ c.join_seat.ensures.joined) ∙ ap (λ s. joined_lanes s c.self.inside.seat.me.0.view.lanes seat.me.0.view.lanes) (sym shape) ∙ ap (λ l. joined_lanes c.self.inside.shape l seat.me.0.view.lanes) c.self.invariant.0
          ∙ ap (joined_lanes c.self.inside.shape lanes) (ap (λ v. v.lanes) parts.seat.1 ∙ sym parts.lanes.0) ∙ sym c.join.ensures,
      rw c.join.ensures (joined_are_lanes c.self.inside.shape lanes c.into_parts-seat.result.1 c.self.invariant.1),
      ap (λ me. me.1) (c.look.ensures.same ∙ c.join_seat.ensures.joined) ∙ c.self.invariant.2,
      subst (λ v. KeepsLanes c.self.inside.shape v c.take_shares.new.mine) (ap (λ me. me.0.view) (sym (c.look.ensures.same ∙ c.join_seat.ensures.joined)))
          (subst (KeepsLanes c.self.inside.shape (joined_part o.shape mine others)) (sym (c.take_shares.ensures ∙ ap (λ l. joined_shares l c.self.inside.shares c.into_parts-seat.result.2) (parts.lanes.0 ∙ ap (λ v. v.lanes) (sym parts.seat.1))))
          (kept_both g.T.Theory.meaning o c.self.inside.shape shape mine others (joined_part o.shape mine others)
          (c.look.ensures.told (record { one = mine; other = others }) (ap (λ me. me.0.joined) c.join_seat.ensures.joined)) c.self.inside.shares c.into_parts-seat.result.2
          c.self.invariant.3
          (subst (λ s. KeepsLanes s others c.into_parts-seat.result.2) (c.requires.others.shape ∙ sym shape)
          (subst (λ v. KeepsLanes c.args.other.shape v c.into_parts-seat.result.2) (sym parts.seat.1) (subst (KeepsLanes c.args.other.shape c.args.other.view) (sym parts.shares.0) parts.shares.1)))
          refl (λ lane. joined_of o.shape mine others lane))),
      keeps_words c.self.inside.shape c.self.inside.private _ _ (ap (λ me. me.0.private) (c.look.ensures.same ∙ c.join_seat.ensures.joined)) c.self.invariant.4,
    )

pub look-requires-clause-tells : goal.look-requires-clause-tells
look-requires-clause-tells g c = λ s seen parts is. seen.0.joined c.join_seat.new.seat.id c.join_seat.new.seat.me.0 parts seen.1 is

pub returns-clause-step : goal.returns-clause-step
returns-clause-step g c =
    let parts = c.into_parts-seat.ensures in
    let mine = c.self.inside.seat.me.0.view in
    let others = c.into_parts-seat.result.0.me.0.view in
    let o = c.args.field.now.origin in
    let into : PassView → PassView → PassView → Type 0 = JoinedInto g.T.Theory.meaning o in
    let told : into mine others (joined_part o.shape mine others) = c.look.ensures.told (record { one = mine; other = others }) (ap (λ me. me.0.joined) c.join_seat.ensures.joined) in
    let both = ap (λ me. me.0.view) (c.look.ensures.same ∙ c.join_seat.ensures.joined) in
    subst (λ v. into v c.args.other.view c.look.new.seat.me.0.view) (ap (λ p. p.view) c.self.view_is)
    (subst (λ v. into mine v c.look.new.seat.me.0.view) parts.seat.1 (subst (into mine others) (sym both) told))
