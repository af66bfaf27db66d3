use Rattle.std.proofs.Common.{rules, Err, ◌≡◌, ◌<◌, ap, sym, subst, ◌∙◌}
use Rattle.md_words.specs.Content.{word_of}
use Rattle.md_machine.specs.Event.{install}
use Rattle.md_rule.specs.Kept.{IsNoNextLeft, KeepsLanes}
use Rattle.md_rule.specs.Steps.{Exchanged, SteppedFrom}
use Rattle.md_rule.proofs.LaneLists.{desc_fits}
use Rattle.md_rule.proofs.LaneSteps.{kept_install_lost, kept_install_won}
use Rattle.md_rule.specs.Private.{HasPrivateWords}
use Rattle.md_rule.proofs.pass.Pass.install.Goals as goal

pub put-requires-clause-may : goal.put-requires-clause-may
put-requires-clause-may g c = rw (ap (λ p. p.view) c.self.view_is) c.requires.may

pub count_slot-requires : goal.count_slot-requires
count_slot-requires g c = (desc_fits c.args.field.now.origin.shape c.args.to.desc c.requires.fits.1, c.requires.fits.2)

pub invariant_of-self : goal.invariant_of-self
invariant_of-self g c =
    let M = g.T.Theory.meaning in
    let o = c.args.field.now.origin in
    let told = c.in_err-put.ensures.step in
    let same = c.put.ensures.same in
    let shape = ap (λ p. p.shape) c.self.view_is ∙ c.requires.field.0.shape in (
      same.0 ∙ c.self.invariant.0,
      c.self.invariant.1,
      same.1 ∙ c.self.invariant.2,
      kept_install_lost M o _ _ c.args.word (word_of c.args.from) c.args.to told.1.0 same.0 c.self.inside.shape shape c.self.inside.shares
          (λ e. told.0 (sym told.1.1 ∙ e)) c.self.invariant.3,
      subst (λ s. HasPrivateWords s c.put.new.private c.put.new.seat.me.0) (sym shape) c.put.ensures.private,
    )

pub returns-in_err-put-clause-step : goal.returns-in_err-put-clause-step
returns-in_err-put-clause-step g c =
    let lost : c.from_residual.result ≡ Err c.in_err-put.field-0.0 = search rules in
    subst (λ v. Exchanged g.T.Theory.meaning c.args.field.now.origin (λ pass. install pass c.args.word (word_of c.args.from) c.args.to) c.args.word (word_of c.args.from) c.from_residual.result v c.put.new.seat.me.0.view)
    (ap (λ p. p.view) c.self.view_is)
    (subst (λ r. Exchanged g.T.Theory.meaning c.args.field.now.origin (λ pass. install pass c.args.word (word_of c.args.from) c.args.to) c.args.word (word_of c.args.from) r c.self.inside.seat.me.0.view c.put.new.seat.me.0.view)
    (sym lost) c.in_err-put.ensures.step)

pub invariant_of-self-2 : goal.invariant_of-self-2
invariant_of-self-2 g c =
    let M = g.T.Theory.meaning in
    let o = c.args.field.now.origin in
    let told = c.in_ok-put.ensures.step in
    let same = c.put.ensures.same in
    let shape = ap (λ p. p.shape) c.self.view_is ∙ c.requires.field.0.shape in (
      same.0 ∙ c.self.invariant.0,
      c.self.invariant.1,
      same.1 ∙ c.self.invariant.2,
      subst (KeepsLanes c.self.inside.shape c.put.new.seat.me.0.view) (sym c.count_slot.ensures.shares)
          (kept_install_won M o _ _ c.args.word (word_of c.args.from) c.args.to told.0 same.0 c.self.inside.shape shape c.self.inside.shares
          (subst (λ n. c.args.to.desc < n) (sym c.count_slot.ensures.size) (desc_fits o.shape c.args.to.desc c.requires.fits.1))
          (λ lane node held left. subst (λ p. IsNoNextLeft p c.args.word) (sym c.self.view_is) c.requires.taken node (lane, held, left.0, left.1)) c.self.invariant.3),
      subst (λ s. HasPrivateWords s c.put.new.private c.put.new.seat.me.0) (sym shape) c.put.ensures.private,
    )

pub returns-clause-step : goal.returns-clause-step
returns-clause-step g c =
    subst (λ v. SteppedFrom g.T.Theory.meaning c.args.field.now.origin (λ pass. install pass c.args.word (word_of c.args.from) c.args.to) c.args.word (word_of c.args.from) v c.put.new.seat.me.0.view)
    (ap (λ p. p.view) c.self.view_is) c.in_ok-put.ensures.step
