use Rattle.std.proofs.Common.{◌∷◌, ap, subst, ◌∙◌}
use Rattle.md_words.specs.Layout.{address}
use Rattle.md_words.specs.Place.{desc_status}
use Rattle.md_machine.specs.declared.step.Kind.TheVariants.{Load}
use Rattle.md_machine.specs.Event.{load}
use Rattle.md_rule.specs.Steps.{SteppedFrom}
use Rattle.md_help.proofs.Steps.{made_load, stands_made}
use Rattle.md_nbtc_law.proofs.beginning.Starting.{finds_settled}
use Rattle.md_nbtc_sets.proofs.begin.settled_status.Goals as goal

pub returns-clause-finds : goal.returns-clause-finds
returns-clause-finds g c =
    let M = g.T.Theory.meaning in
    let o = c.args.field.now.origin in
    let p = c.args.pass.now.view in
    let q = c.settle_one.new.pass.view in
    let r = c.load.new.self.view in
    let at = c.status.ensures.place ∙ ap (λ s. address s (desc_status c.args.desc)) c.shape.ensures in
    let step = subst (λ w. SteppedFrom M o (λ pass. load pass w) w c.load.result q r) at c.load.ensures.step in
    let s = c.settle_one.ensures.settles in
    finds_settled M o c.args.desc c.requires.exists (s.ask ∷ s.steps) c.settle_one.result p q r c.load.result c.requires.own s.goes (c.settle_one.ensures.own c.requires.own) step

pub returns-clause-stands : goal.returns-clause-stands
returns-clause-stands g c =
    let M = g.T.Theory.meaning in
    let o = c.args.field.now.origin in
    let q = c.settle_one.new.pass.view in
    let r = c.load.new.self.view in
    stands_made M o (λ pass. load pass c.status.result) Load c.status.result c.load.result c.load.result q r c.load.ensures.step.0 (made_load M o c.status.result c.load.result q r c.load.ensures.step)
