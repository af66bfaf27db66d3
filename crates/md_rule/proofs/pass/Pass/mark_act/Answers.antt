use Rattle.std.proofs.Common.{ap, sym, subst, ◌∙◌}
use Rattle.md_rule.specs.Steps.{Acted, MayAct, MayTell}
use Rattle.md_rule.proofs.Events.{act_tells}
use Rattle.md_rule.proofs.LaneEvents.{quiet_mark_act}
use Rattle.md_rule.proofs.LaneSteps.{kept_quiet}
use Rattle.md_rule.proofs.Private.{keeps_words}
use Rattle.md_rule.proofs.pass.Pass.mark_act.Goals as goal

pub mark-requires-clause-may : goal.mark-requires-clause-may
mark-requires-clause-may g c =
    let M = g.T.Theory.meaning in
    let o = c.args.field.now.origin in
    let view = c.self.inside.seat.me.0.view in
    let may : MayAct M o c.args.op c.args.reply view = rw (ap (λ p. p.view) c.self.view_is) c.requires.may in
    subst (λ about. MayTell M o view 0 (λ found. found) (λ _. Acted M o about.0 about.1)) (sym c.of.ensures)
    (act_tells M o c.args.op c.args.reply view may)

pub invariant_of-self : goal.invariant_of-self
invariant_of-self g c =
    let M = g.T.Theory.meaning in
    let o = c.args.field.now.origin in
    let told = subst (λ about. Acted M o about.0 about.1 c.self.inside.seat.me.0.view c.mark.new.seat.me.0.view) c.of.ensures c.mark.ensures.told.1 in
    let same = c.mark.ensures.same in
    let shape = ap (λ p. p.shape) c.self.view_is ∙ c.requires.field.shape in (
      same.0 ∙ c.self.invariant.0,
      c.self.invariant.1,
      same.1 ∙ c.self.invariant.2,
      kept_quiet M o _ _ _ told.2 same.0 c.self.inside.shape shape (quiet_mark_act M o _ _ told.0 told.2) c.self.inside.shares (λ _ _. tt) c.self.invariant.3,
      keeps_words c.self.inside.shape c.self.inside.private _ _ c.mark.ensures.private c.self.invariant.4,
    )

pub returns-clause-step : goal.returns-clause-step
returns-clause-step g c =
    let M = g.T.Theory.meaning in
    let o = c.args.field.now.origin in
    subst (λ v. Acted M o c.args.op c.args.reply v c.mark.new.seat.me.0.view) (ap (λ p. p.view) c.self.view_is)
    (subst (λ about. Acted M o about.0 about.1 c.self.inside.seat.me.0.view c.mark.new.seat.me.0.view) c.of.ensures c.mark.ensures.told.1)
