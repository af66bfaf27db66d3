use Rattle.std.proofs.Common.{Some, sym, subst}
use Rattle.md_history.specs.Engine.{IsSplit}
use Rattle.md_rule.specs.Views.{FieldView, PassState}
use Rattle.md_store_bodies.specs.Store.{IsPassOf, begun_by, front_in}
use Rattle.md_store.proofs.store.Store.split.Goals as goal

pub returns : goal.returns
returns c =
    subst (λ (q : PassState). IsSplit front_in begun_by (IsPassOf c.args.self.now) c.args.pass.now c.split.new.pass (Some q)) (sym c.of.ensures)
    (subst (λ (p : PassState). IsSplit front_in begun_by (IsPassOf c.args.self.now) p c.split.new.pass (Some c.in_ok-other.other)) c.pass.view_is
    (subst (λ (f : FieldView). IsSplit front_in begun_by (IsPassOf f) c.pass.inside.pass c.split.new.pass (Some c.in_ok-other.other)) c.self.view_is c.in_ok-other.ensures))
