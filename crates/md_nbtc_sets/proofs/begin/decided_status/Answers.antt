use Rattle.std.proofs.Common.{[], ◌∷◌, sym, ap, subst, ◌∙◌, inl, inr}
use Rattle.md_words.specs.declared.status.StatusWord.{StatusWord}
use Rattle.md_words.specs.Layout.{address}
use Rattle.md_words.specs.Place.{desc_status}
use Rattle.md_machine.specs.declared.pass.PassView.{PassView}
use Rattle.md_machine.specs.declared.step.Kind.TheVariants.{Load}
use Rattle.md_machine.specs.Event.{load}
use Rattle.md_rule.specs.Steps.{SteppedFrom}
use Rattle.md_help.proofs.Deciding.{reached_after}
use Rattle.md_help.proofs.Steps.{made_load, stands_made}
use Rattle.md_nbtc_law.proofs.beginning.Starting.{finds_after, finds_loaded, no_later_loaded, own_still}
use Rattle.md_nbtc_sets.proofs.begin.decided_status.Goals as goal

pub settled_status-requires-clause-idle : goal.settled_status-requires-clause-idle
settled_status-requires-clause-idle g c =
    let M = g.T.Theory.meaning in
    let o = c.args.field.now.origin in
    let m = made_load M o c.status.result c.load-found.result c.args.pass.now.view c.load-found.new.self.view c.load-found.ensures.step in
    ap (λ (x : PassView). x.hand) m.goes.1 ∙ c.requires.idle

pub settled_status-requires-clause-own : goal.settled_status-requires-clause-own
settled_status-requires-clause-own g c =
    let M = g.T.Theory.meaning in
    let o = c.args.field.now.origin in
    let p = c.args.pass.now.view in
    let q = c.load-found.new.self.view in
    let m = made_load M o c.status.result c.load-found.result p q c.load-found.ensures.step in
    own_still M o c.args.desc c.requires.exists (m.step ∷ []) p q m.goes c.requires.own

pub settled_status-requires-clause-reached : goal.settled_status-requires-clause-reached
settled_status-requires-clause-reached g c =
    let o = c.args.field.now.origin in
    let p = c.args.pass.now in
    let q = c.load-found.new.self in
    let m = made_load g.T.Theory.meaning o c.status.result c.load-found.result p.view q.view c.load-found.ensures.step in
    reached_after o.shape (m.step ∷ []) p q c.args.desc c.load-found.ensures.same m.goes c.requires.reached

pub returns-in-Committed-clause-finds : goal.returns-in-Committed-clause-finds
returns-in-Committed-clause-finds g c =
    let M = g.T.Theory.meaning in
    let o = c.args.field.now.origin in
    let p = c.args.pass.now.view in
    let q = c.load-found.new.self.view in
    let at = c.status.ensures.place ∙ ap (λ s. address s (desc_status c.args.desc)) c.shape.ensures in
    let step = subst (λ w. SteppedFrom M o (λ pass. load pass w) w c.load-found.result p q) at c.load-found.ensures.step in
    finds_loaded M o c.args.desc c.requires.exists p q c.load-found.result c.requires.own step
    (inl (sym (ap (λ (w : StatusWord). w.status) c.of.ensures.parts) ∙ c.in-Committed.is))

pub returns-in-Aborted-clause-finds : goal.returns-in-Aborted-clause-finds
returns-in-Aborted-clause-finds g c =
    let M = g.T.Theory.meaning in
    let o = c.args.field.now.origin in
    let p = c.args.pass.now.view in
    let q = c.load-found.new.self.view in
    let at = c.status.ensures.place ∙ ap (λ s. address s (desc_status c.args.desc)) c.shape.ensures in
    let step = subst (λ w. SteppedFrom M o (λ pass. load pass w) w c.load-found.result p q) at c.load-found.ensures.step in
    finds_loaded M o c.args.desc c.requires.exists p q c.load-found.result c.requires.own step
    (inr (sym (ap (λ (w : StatusWord). w.status) c.of.ensures.parts) ∙ c.in-Aborted.is))

pub returns-in_default-clause-finds : goal.returns-in_default-clause-finds
returns-in_default-clause-finds g c =
    let M = g.T.Theory.meaning in
    let o = c.args.field.now.origin in
    let p = c.args.pass.now.view in
    let q = c.load-found.new.self.view in
    let at = c.status.ensures.place ∙ ap (λ s. address s (desc_status c.args.desc)) c.shape.ensures in
    let step = subst (λ w. SteppedFrom M o (λ pass. load pass w) w c.load-found.result p q) at c.load-found.ensures.step in
    let m = made_load M o (address o.shape (desc_status c.args.desc)) c.load-found.result p q step in
    finds_after M o c.args.desc c.requires.exists (m.step ∷ []) p q c.settled_status.new.pass.view c.settled_status.result m.goes
    (no_later_loaded M o c.args.desc c.requires.exists p q c.load-found.result c.requires.own step) c.settled_status.ensures.finds

pub returns-in-Committed-clause-stands : goal.returns-in-Committed-clause-stands
returns-in-Committed-clause-stands g c =
    let M = g.T.Theory.meaning in
    let o = c.args.field.now.origin in
    let p = c.args.pass.now.view in
    let q = c.load-found.new.self.view in
    let is = made_load M o c.status.result c.load-found.result p q c.load-found.ensures.step in
    stands_made M o (λ pass. load pass c.status.result) Load c.status.result c.load-found.result c.load-found.result p q c.load-found.ensures.step.0 is

pub returns-in-Aborted-clause-stands : goal.returns-in-Aborted-clause-stands
returns-in-Aborted-clause-stands g c =
    let M = g.T.Theory.meaning in
    let o = c.args.field.now.origin in
    let p = c.args.pass.now.view in
    let q = c.load-found.new.self.view in
    let is = made_load M o c.status.result c.load-found.result p q c.load-found.ensures.step in
    stands_made M o (λ pass. load pass c.status.result) Load c.status.result c.load-found.result c.load-found.result p q c.load-found.ensures.step.0 is
