use Rattle.std.proofs.Common.{rules, subst}
use Rattle.md_history.specs.Engine.{SettlesFrom}
use Rattle.md_rule.specs.Views.{FieldView, PassState}
use Rattle.md_store_bodies.specs.Store.{IsPassOf, front_in, start_of}
use Rattle.md_store.proofs.store.Store.settle.Goals as goal

pub returns-clause-may : goal.returns-clause-may
returns-clause-may c = search rules depth 1

pub returns-clause-of : goal.returns-clause-of
returns-clause-of c = subst (λ (f : FieldView). IsPassOf f c.settle.new.pass) c.self.view_is c.settle.ensures.of

pub returns-clause-settles : goal.returns-clause-settles
returns-clause-settles c =
    subst (λ (p : PassState). SettlesFrom (start_of c.args.self.now) (front_in p) (front_in c.settle.new.pass)) c.pass.view_is
    (subst (λ (f : FieldView). SettlesFrom (start_of f) (front_in c.pass.inside.pass) (front_in c.settle.new.pass)) c.self.view_is c.settle.ensures.settles)
