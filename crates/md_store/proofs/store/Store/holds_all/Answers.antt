use Rattle.std.proofs.Common.{subst}
use Rattle.std.specs.Prelude.{IsTrue, ◌↔◌}
use Rattle.md_machine.specs.clauses.passes.Alone.{HoldsAll}
use Rattle.md_rule.specs.Views.{FieldView, PassState}
use Rattle.md_store_bodies.proofs.AllLanes.{held_all, holds_all}
use Rattle.md_store.proofs.store.Store.holds_all.Goals as goal

pub returns : goal.returns
returns c =
    let f = c.args.self.now in
    let p = c.args.pass.now in
    let told = subst (λ (q : PassState). IsTrue c.holds_all.result ↔ HoldsAll f.origin.shape q.view) c.pass.view_is
    (subst (λ (g : FieldView). IsTrue c.holds_all.result ↔ HoldsAll g.origin.shape c.pass.inside.pass.view) c.self.view_is c.holds_all.ensures) in
    (λ yes. held_all f p c.requires (told.0 yes), λ same. told.1 (holds_all f.origin.shape p.view same))
