use Rattle.std.proofs.Common.{◌↔◌, ◌<◌, ℕ, List, IsTrue, ap, sym, subst, ◌∙◌}
use Rattle.std.specs.List.{Contains}
use Rattle.md_words.specs.declared.shape.Shape.{Shape}
use Rattle.md_rule.proofs.pass.Pass.holds_all.Goals as goal

pub returns : goal.returns
returns g c =
    let shape = ap (λ p. p.shape) c.self.view_is ∙ c.requires.shape in
    let lanes = sym c.self.invariant.0 ∙ ap (λ p. p.view.lanes) c.self.view_is in
    subst (λ (s : Shape). IsTrue c.has_all.result ↔ ((lane : ℕ) → lane < s.lanes → Contains c.args.self.now.view.lanes lane)) shape
    (subst (λ (l : List ℕ). IsTrue c.has_all.result ↔ ((lane : ℕ) → lane < c.self.inside.shape.lanes → Contains l lane)) lanes c.has_all.ensures)
